-- What the making of settings is answered.
use Rattle.std.specs.Prelude.{ℕ, cond, List, Ok, Err, codes, Result}
use Rattle.index.specs.declared.settings.Settings.{Settings}
use Rattle.index.specs.declared.settings.SettingsRefusal.{SettingsRefusal}
use Rattle.index.specs.declared.settings.SettingsRefusal.TheVariants.{OutsideLimits}
use Rattle.index.specs.Servers.{accepted}

-- the number of a refusal
abbrev pub refusal_number : SettingsRefusal → ℕ
refusal_number OutsideLimits = 30

-- a refusal in words
abbrev pub refusal_words : SettingsRefusal → List ℕ
refusal_words OutsideLimits = codes "a setting is outside its limits"

-- 0 with servers, partitions per server and threshold, or the refusal's number
abbrev pub settings_answer : Result Settings SettingsRefusal → ℕ × ℕ × ℕ × ℕ
settings_answer (Ok s) = (0, s.servers, s.per_server, s.threshold)
settings_answer (Err e) = (refusal_number e, 0, 0, 0)

-- what settings are answered: 0 and themselves, or 30
abbrev pub set_up : ℕ → ℕ → ℕ → ℕ × ℕ × ℕ × ℕ
set_up n m threshold = cond (accepted n m threshold) (0, n, m, threshold) (30, 0, 0, 0)
