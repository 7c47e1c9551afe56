-- When a text is a name, a space and a token.
use Rattle.std.specs.Prelude.{◌&&◌}
use Rattle.std.specs.Str.{bytes_eq}
use Rattle.std.proofs.Common.{◌≡◌, ◌≢◌, ℕ, suc, ◌<◌, ◌≤◌, Bool, true, false, List, [], ◌∷◌, length, get_or, take, drop, eqb, refl}
use Rattle.std.proofs.Common.{◌∙◌, ap, arith}
use Rattle.std.proofs.lemmas.Bool.Decides.{nat_tests}
use Rattle.tc_users.specs.Login.{login_data}

and_false : (b : Bool) → (b && false) ≡ false
and_false true = refl
and_false false = refl

and_assoc : (a b c : Bool) → (a && (b && c)) ≡ ((a && b) && c)
and_assoc true b c = refl
and_assoc false b c = refl

-- nor is one with no space after the name
pub login_data-no_space : (name token text : List ℕ) → length name < length text → get_or text (length name) 0 ≢ 32
    → bytes_eq text (login_data name token) ≡ false
login_data-no_space [] token [] h ne = absurd (omega arith)
login_data-no_space [] token (x ∷ xs) h ne =
    let e : eqb x 32 ≡ false = grind (arith, nat_tests) in ap (λ b. b && bytes_eq xs token) e
login_data-no_space (c ∷ cs) token [] h ne = absurd (omega arith)
login_data-no_space (c ∷ cs) token (x ∷ xs) h ne =
    ap (λ b. eqb x c && b) (login_data-no_space cs token xs (omega arith) ne) ∙ and_false (eqb x c)

-- one with a space there is so by its two parts
pub login_data-parts : (name token text : List ℕ) → length name < length text → get_or text (length name) 0 ≡ 32
    → bytes_eq text (login_data name token)
    ≡ (bytes_eq (take (length name) text) name && bytes_eq (drop (suc (length name)) text) token)
login_data-parts [] token [] h e = absurd (omega arith)
login_data-parts [] token (x ∷ xs) h e = let f : eqb x 32 ≡ true = grind (arith, nat_tests) in ap (λ b. b && bytes_eq xs token) f
login_data-parts (c ∷ cs) token [] h e = absurd (omega arith)
login_data-parts (c ∷ cs) token (x ∷ xs) h e =
    ap (λ b. eqb x c && b) (login_data-parts cs token xs (omega arith) e)
    ∙ and_assoc (eqb x c) (bytes_eq (take (length cs) xs) cs) (bytes_eq (drop (suc (length cs)) xs) token)
