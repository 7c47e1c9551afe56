-- Numbers of lists that are gone over from their ends.
use Rattle.std.proofs.Common.{◌≡◌, ℕ, List, [], ◌∷◌, ◌++◌, map, reverse, sym, ◌∙◌, ap, append_assoc}
use Rattle.std.proofs.lemmas.List.{map_push, reverse-append}

-- the last one's number, and others behind it
pub map-last : {A : Type 0} (f : A → ℕ) (xs : List A) (x : A) (n : ℕ) (ns : List ℕ) → f x ≡ n
    → map f (xs ++ x ∷ []) ++ ns ≡ map f xs ++ n ∷ ns
map-last f xs x n ns is =
    ap (λ (ms : List ℕ). ms ++ ns) (map_push f xs x) ∙ append_assoc (map f xs) (f x ∷ []) ns ∙ ap (λ m. map f xs ++ m ∷ ns) is

-- the last one of a list goes to the end of another one, which is read backwards
pub map-moved : {A B : Type 0} (f : A → ℕ) (g : B → ℕ) (xs : List A) (x : A) (ys : List B) (y : B) → f x ≡ g y
    → map f (xs ++ x ∷ []) ++ reverse (map g ys) ≡ map f xs ++ reverse (map g (ys ++ y ∷ []))
map-moved f g xs x ys y is =
    map-last f xs x (g y) (reverse (map g ys)) is
    ∙ ap (λ (ns : List ℕ). map f xs ++ ns) (sym (ap reverse (map_push g ys y) ∙ reverse-append (map g ys) (g y ∷ [])))
