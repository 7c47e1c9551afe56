-- The lines of a text, cut off its front one by one.
use Rattle.std.specs.Prelude.{not, nat_lt, option_map, ◌==◌}
use Rattle.std.specs.List.{prefix_len}
use Rattle.std.proofs.Common.{◌≡◌, ℕ, zero, suc, ◌+◌, ◌<◌, ◌≤◌, Bool, true, false, cond, List, [], ◌∷◌, length, take, drop, Some}
use Rattle.std.proofs.Common.{None, refl, ◌∙◌, ap, subst, arith, add-one}
use Rattle.std.proofs.lemmas.Bool.Decides.{nat_tests}
use Rattle.tc_grammar.specs.Tokens.{lengthened}
use Rattle.tc_script.specs.Texts.{sides, cut, lines_of}

-- where the first line of a text ends
abbrev line_end : List ℕ → ℕ
line_end text = prefix_len (λ b. not (b == 10)) text

-- the lines of a text whose first one ends at this place
record AreCutAt (text : List ℕ) (lines : List (List ℕ)) (place : ℕ) : Type 0 where
  first : place < length text → lines ≡ take place text ∷ lines_of (drop (place + 1) text)
  alone : length text ≤ place → lines ≡ text ∷ []

are_cut : (text : List ℕ) → AreCutAt text (lines_of text) (line_end text)
are_cut [] = record { first = λ h. absurd (omega arith); alone = λ h. refl }
are_cut (b ∷ text) = go (are_cut text) (b == 10) (line_end (b ∷ text)) refl
  where
    go : AreCutAt text (lines_of text) (line_end text) → (x : Bool) (place : ℕ) → place ≡ cond (not x) (1 + line_end text) 0
        → AreCutAt (b ∷ text) (cond x ([] ∷ lines_of text) (lengthened b (lines_of text))) place
    go rest true zero e = record { first = λ h. refl; alone = λ h. absurd (omega arith) }
    go rest true (suc q) e = absurd (omega arith)
    go rest false zero e = absurd (omega arith)
    go rest false (suc q) e =
        let same : line_end text ≡ q = omega arith in
        let cut_there = subst (AreCutAt text (lines_of text)) same rest in
        record {
          first = λ h. rw add-one (ap (lengthened b) (rw add-one at (cut_there.first (omega arith))));
          alone = λ h. ap (lengthened b) (cut_there.alone (omega arith));
        }

-- a text with a line feed has its first line, and the lines of what is behind it
pub lines_of-cut : (text : List ℕ) (parts : List ℕ × List ℕ) → cut 10 text ≡ Some parts
    → lines_of text ≡ parts.0 ∷ lines_of parts.1
lines_of-cut text parts e = go (nat_lt (line_end text) (length text)) refl e
  where
    go : (x : Bool) → nat_lt (line_end text) (length text) ≡ x
        → option_map (sides text) (cond x (Some (line_end text)) None) ≡ Some parts → lines_of text ≡ parts.0 ∷ lines_of parts.1
    go true lt h =
        let within : line_end text < length text = grind (arith, nat_tests) in
        let same : sides text (line_end text) ≡ parts = cc in
        (are_cut text).first within ∙ ap (λ (p : List ℕ × List ℕ). p.0 ∷ lines_of p.1) same
    go false lt h = cc

-- a text without one is one line
pub lines_of-alone : (text : List ℕ) → cut 10 text ≡ None → lines_of text ≡ text ∷ []
lines_of-alone text e = go (nat_lt (line_end text) (length text)) refl e
  where
    go : (x : Bool) → nat_lt (line_end text) (length text) ≡ x
        → option_map (sides text) (cond x (Some (line_end text)) None) ≡ None → lines_of text ≡ text ∷ []
    go true lt h = cc
    go false lt h =
        let past : length text ≤ line_end text = grind (arith, nat_tests) in
        (are_cut text).alone past
