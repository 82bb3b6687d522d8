use Rattle.std.proofs.Common.{◌≡◌, ℕ, ◌+◌, ◌<◌, Bool, List, [], ◌++◌, length, get_or, take, sym, refl, ap, ◌∙◌}
use Rattle.std.proofs.Output.{has_written_append, has_written_of_eq}
use Rattle.std.proofs.lemmas.Bool.{cond-true}
use Rattle.std.specs.Fmt.{HasWritten}
use Rattle.std.proofs.lemmas.List.{flat_map_more, take_more, take_all}
use Rattle.std.proofs.lemmas.Str.Ascii.{encode_ascii}
use Rattle.wheels.specs.Escapes.{escaped}
use Rattle.wheels.specs.Texts.{byte_text}
use Rattle.wheels.proofs.quoted.write_escaped.Goals as goal
use Rattle.wheels.proofs.quoted.write_escaped.Goals.{then-stands+in_ok-write_char, else-stands+in_ok-write_hex}

-- one byte more
escaped_more : (p : ℕ → Bool) (bs : List ℕ) (i : ℕ) (b : Bool) → i < length bs → b ≡ p (get_or bs i 0) → escaped p (take i bs) ++ byte_text b (get_or bs i 0) ≡ escaped p (take (i + 1) bs)
escaped_more p bs i b h e =
    ap (λ (x : Bool). escaped p (take i bs) ++ byte_text x (get_or bs i 0)) e
    ∙ flat_map_more (λ b. byte_text (p b) b) [] (take i bs) (get_or bs i 0)
    ∙ ap (escaped p) (sym (take_more bs i 0 h))

pub loop-byte-preserved : goal.loop-byte-preserved
loop-byte-preserved g c p is plain =
    let took = g.W.Write.write_str_gives in
    let bytes = c.args.bytes.now in
    let i = c.loop-byte.byte-index in
    let byte : ℕ = get_or bytes i 0 in
    let so_far = c.loop-byte.invariant p is plain in
    let stands = is byte c.stands.result c.stands.ensures in
    let done : HasWritten took c.args.f.now (escaped p (take i bytes) ++ byte_text c.stands.result byte) c.if-stands.f =
    elim c.if-stands.branch [
      | then-stands+in_ok-write_char w ↦
          has_written_of_eq took c.args.f.now _ _ c.if-stands.f
          (ap (λ (t : List ℕ). escaped p (take i bytes) ++ t) (encode_ascii byte (c.requires.ascii byte (rw (sym w.if-stands.true) c.stands.ensures)) ∙ sym (cond-true c.stands.result _ _ w.if-stands.true)))
          (has_written_append took c.args.f.now _ c.loop-byte.f _ c.if-stands.f so_far (rw w.f-is (w.in_ok-write_char.ensures.writes so_far.plain refl)))
      | else-stands+in_ok-write_hex w ↦
          has_written_of_eq took c.args.f.now _ _ c.if-stands.f
          (ap (λ (t : List ℕ). escaped p (take i bytes) ++ t) (ap (λ b. byte_text b byte) (sym w.if-stands.false)))
          (has_written_append took c.args.f.now _ c.loop-byte.f _ c.if-stands.f so_far (rw w.f-is (w.in_ok-write_hex.ensures so_far.plain refl)))
    ] in
    has_written_of_eq took c.args.f.now _ _ c.if-stands.f (escaped_more p bytes i c.stands.result c.loop-byte-test.true stands) done

pub returns : goal.returns
returns g c p is plain ok =
    has_written_of_eq g.W.Write.write_str_gives c.args.f.now _ _ c.loop-byte.f
    (ap (escaped p) (take_all c.loop-byte.byte-index c.args.bytes.now c.loop-byte-test.false))
    (c.loop-byte.invariant p is plain)
