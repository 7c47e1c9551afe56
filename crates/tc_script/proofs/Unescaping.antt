-- A text stands for its first byte and then for what the text behind it stands for.
use Rattle.std.specs.Prelude.{option_map, ◌==◌}
use Rattle.std.proofs.Common.{◌≡◌, ℕ, ◌<◌, Bool, true, false, cond, List, [], ◌∷◌, ◌++◌, length, Option, Some, None, refl, sym}
use Rattle.std.proofs.Common.{◌∙◌, ap, arith, append_assoc, append-nil}
use Rattle.tc_script.specs.Texts.{bind, put, put_some, short_escape, hex_pair, unescaped, escaped_letter, escaped_high}
use Rattle.tc_script.specs.Texts.{escaped_low, front_pair, front_escape, front_of}

-- what a text stands for, by the byte at its front and the text behind it
abbrev pub of_front : Option (ℕ × List ℕ) → Option (List ℕ)
of_front front = bind front (λ f. put f.0 (unescaped f.1))

of_byte : (b : Option ℕ) (text : List ℕ) → put_some b (unescaped text) ≡ of_front (option_map (λ x. (x, text)) b)
of_byte None text = refl
of_byte (Some x) text = refl

of_pair : (text : List ℕ) → escaped_high text ≡ of_front (front_pair text)
unfolding escaped_high escaped_low
of_pair [] = refl
of_pair (high ∷ []) = refl
of_pair (high ∷ low ∷ text) = of_byte (hex_pair high low) text

of_escape : (text : List ℕ) → escaped_letter text ≡ of_front (front_escape text)
unfolding escaped_letter
of_escape [] = refl
of_escape (b ∷ text) = go (b == 120)
  where
    go : (x : Bool) → cond x (escaped_high text) (put_some (short_escape b) (unescaped text))
        ≡ of_front (cond x (front_pair text) (option_map (λ y. (y, text)) (short_escape b)))
    go true = of_pair text
    go false = of_byte (short_escape b) text

pub unescaped-front : (text : List ℕ) → 0 < length text → unescaped text ≡ of_front (front_of text)
unfolding unescaped
unescaped-front [] h = absurd (omega arith)
unescaped-front (b ∷ text) h = go (b == 92)
  where
    go : (x : Bool)
        → cond x (escaped_letter text) (put b (unescaped text)) ≡ of_front (cond x (front_escape text) (Some (b, text)))
    go true = of_escape text
    go false = refl

-- bytes that were read, before those that a text stands for
abbrev pub behind : List ℕ → Option (List ℕ) → Option (List ℕ)
behind bytes text = option_map (λ bs. bytes ++ bs) text

behind-put : (bytes : List ℕ) (b : ℕ) (text : Option (List ℕ)) → behind bytes (put b text) ≡ behind (bytes ++ b ∷ []) text
behind-put bytes b None = refl
behind-put bytes b (Some bs) = ap Some (sym (append_assoc bytes (b ∷ []) bs))

-- one more byte is read
pub unescaped-step : (whole rest bytes : List ℕ) (b : ℕ) (next : List ℕ) → 0 < length rest
    → behind bytes (unescaped rest) ≡ unescaped whole → front_of rest ≡ Some (b, next)
    → behind (bytes ++ b ∷ []) (unescaped next) ≡ unescaped whole
unescaped-step whole rest bytes b next h e f =
    sym (behind-put bytes b (unescaped next)) ∙ (ap (behind bytes) (sym (unescaped-front rest h ∙ ap of_front f)) ∙ e)

-- an escape is none
pub unescaped-stuck : (whole rest bytes : List ℕ) → 0 < length rest → behind bytes (unescaped rest) ≡ unescaped whole
    → front_of rest ≡ None → unescaped whole ≡ None
unescaped-stuck whole rest bytes h e f = sym e ∙ ap (behind bytes) (unescaped-front rest h ∙ ap of_front f)

-- all is read
pub unescaped-end : (whole rest bytes : List ℕ) → rest ≡ [] → behind bytes (unescaped rest) ≡ unescaped whole
    → Some bytes ≡ unescaped whole
unfolding unescaped
unescaped-end whole [] bytes h e = ap Some (sym (append-nil bytes)) ∙ e
unescaped-end whole (b ∷ rest) bytes h e = cc
