mod Lists
mod Newlines
