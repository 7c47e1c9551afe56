use Rattle.std.proofs.Common.{◌≡◌, ℕ, ◌+◌, ◌-◌, List, true, length, take, drop, sym, ◌∙◌, ap, subst, arith, length-drop}
use Rattle.std.specs.Prelude.{◌==◌}
use Rattle.std.proofs.lemmas.Bool.{eqb-true}
use Rattle.std.proofs.lemmas.Bool.Decides.{nat_tests}
use Rattle.std.proofs.lemmas.List.{get_or-drop, take_all}
use Rattle.memchr.specs.Find.{NoneBefore, Nowhere, Passes, is_byte}
use Rattle.tc_feed.specs.Stream.{line_length}
use Rattle.tc_feed.proofs.Lines.{line_found, lines_more}
use Rattle.tc_feed.proofs.line_end.seek_line.Goals as goal

is_feed : (x : ℕ) → x ≡ 10 → (x == 10) ≡ true
is_feed x e = grind (arith, nat_tests, e)

all_left : (xs : List ℕ) (from : ℕ) → take (length xs - from) (drop from xs) ≡ drop from xs
all_left xs from = take_all (length xs - from) (drop from xs) (omega (arith, length-drop from xs))

pub returns-in-Some : goal.returns-in-Some
returns-in-Some c =
    let xs = c.args.bytes.now in
    let from = c.args.from in
    let i = c.in-Some.i in
    let first = subst (λ hay. NoneBefore (Passes (is_byte 10) hay) 0 (length hay) i × Passes (is_byte 10) hay i)
    (all_left xs from) c.in-Some.ensures in
    let lt = first.0.high in
    let le : length (drop from xs) ≡ length xs - from = length-drop from xs in
    sym (line_found xs (from + i) (omega (arith, lt, le, c.requires.within))
    (lines_more xs from i (omega (arith, lt, le, c.requires.within)) c.requires.none
    (λ k below is. first.0.before k (omega arith) below (is_feed _ is)))
    (sym (get_or-drop from xs i 0) ∙ eqb-true _ _ first.1))

pub returns-in-None : goal.returns-in-None
returns-in-None c =
    let xs = c.args.bytes.now in
    let from = c.args.from in
    let clear = subst (λ hay. Nowhere (Passes (is_byte 10) hay) 0 (length hay)) (all_left xs from) c.in-None.ensures in
    let le : length (drop from xs) ≡ length xs - from = length-drop from xs in
    sym (sym (ap line_length (take_all (from + length (drop from xs)) xs (omega (arith, le))))
    ∙ lines_more xs from (length (drop from xs)) (omega (arith, le, c.requires.within)) c.requires.none
    (λ k below is. clear k (omega arith) below (is_feed _ is)))
