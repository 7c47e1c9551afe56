-- A list of tokens that are keys.
use Rattle.std.specs.Prelude.{◌&&◌, nat_lt}
use Rattle.std.specs.List.{list_all}
use Rattle.std.proofs.Common.{◌≡◌, ℕ, ◌<◌, Bool, true, false, cond, List, [], ◌∷◌, ◌++◌, length, Some, None, refl, sym, ap, ◌∙◌}
use Rattle.std.proofs.Common.{arith}
use Rattle.std.proofs.lemmas.Bool.Decides.{nat_tests}
use Rattle.std.proofs.lemmas.List.{append-nil}
use Rattle.tc_item.specs.KeyRule.{is_key}
use Rattle.tc_grammar.specs.Retrieval.{keys_of}

no_keys : (b c : Bool) (args : List (List ℕ)) → c ≡ false → cond (b && c) (Some args) None ≡ None
no_keys true c args e = rw e refl
no_keys false c args e = refl

pub keys_of-bad : (args : List (List ℕ)) → list_all is_key args ≡ false → keys_of args ≡ None
unfolding keys_of
keys_of-bad args e = no_keys _ _ args e

pub keys_of-empty : keys_of [] ≡ None
unfolding keys_of
keys_of-empty = refl

pub keys_of-good : (args : List (List ℕ)) → 0 < length args → list_all is_key args ≡ true → keys_of args ≡ Some args
unfolding keys_of
keys_of-good args h e = let t : nat_lt 0 (length args) ≡ true = grind (arith, nat_tests) in rw (t, e) refl

pub bad_key_front : (token : List ℕ) (rest : List (List ℕ)) → is_key token ≡ false → list_all is_key (token ∷ rest) ≡ false
bad_key_front token rest e = rw e refl

pub all_read : (front rest args : List (List ℕ)) → front ++ rest ≡ args → rest ≡ [] → front ≡ args
all_read front rest args e none = sym (append-nil front) ∙ ap (λ xs. front ++ xs) (sym none) ∙ e

-- a list that is not empty has a length
pub length-some : (keys : List (List ℕ)) → (keys ≡ [] → ⊥) → 0 < length keys
length-some [] h = absurd (h refl)
length-some (key ∷ keys) h = omega arith

pub bad_key_behind : (token : List ℕ) (rest : List (List ℕ)) → list_all is_key rest ≡ false
    → list_all is_key (token ∷ rest) ≡ false
bad_key_behind token rest e = go (is_key token) (list_all is_key rest) e
  where
    go : (b c : Bool) → c ≡ false → (b && c) ≡ false
    go true c h = h
    go false c h = refl

pub keys_of-none : (token : List ℕ) (rest args : List (List ℕ)) → args ≡ token ∷ rest → list_all is_key (token ∷ rest) ≡ false
    → keys_of args ≡ None
keys_of-none token rest args e bad = keys_of-bad args (ap (list_all is_key) e ∙ bad)

pub keys_of-all : (token : List ℕ) (rest args : List (List ℕ)) → args ≡ token ∷ rest → is_key token ≡ true
    → list_all is_key rest ≡ true → keys_of args ≡ Some args
keys_of-all token rest args e first good =
    let all : list_all is_key (token ∷ rest) ≡ true = rw (first, good) refl in
    let some : 0 < length (token ∷ rest) = omega arith in
    keys_of-good args (omega (arith, some, ap length e)) (ap (list_all is_key) e ∙ all)
