-- What is taken of slices that stand at the front of what waits.
use Rattle.std.specs.Io.{WritesAtMost}
use Rattle.std.specs.Io.KnownBytes.{Appends, WriteAppends}
use Rattle.std.specs.Io.Slices.{io_slice_bytes, io_slices_bytes}
use Rattle.std.specs.declared.io.slices.IoSlice.{IoSlice}
use Rattle.std.proofs.Common.{◌≡◌, ℕ, List, [], ◌∷◌, ◌++◌, take, Option, Result, Ok, Err, refl, sym, ◌∙◌, ap, subst, append_assoc}
use Rattle.std.proofs.lemmas.List.{take-append-le}

-- what is taken of a front is taken of the whole
pub taken-of_front : {E : Type 0} (old new : Option (List ℕ)) (r : Result ℕ E) (front rest : List ℕ)
    → WritesAtMost r front → WriteAppends old new r front → WriteAppends old new r (front ++ rest)
taken-of_front old new (Ok n) front rest most taken =
    subst (λ (xs : List ℕ). Appends old new xs) (sym (take-append-le n front rest most)) taken
taken-of_front old new (Err e) front rest most taken = taken

-- one slice more stands at the front
longer : (s : IoSlice) (more : List IoSlice) (first whole behind rest : List ℕ)
    → io_slice_bytes s ≡ first → whole ≡ first ++ behind → behind ≡ io_slices_bytes more ++ rest
    → whole ≡ io_slices_bytes (s ∷ more) ++ rest
longer s more first whole behind rest is split h =
    split ∙ ap (λ (xs : List ℕ). xs ++ behind) (sym is) ∙ ap (λ (xs : List ℕ). io_slice_bytes s ++ xs) h
    ∙ sym (append_assoc (io_slice_bytes s) (io_slices_bytes more) rest)

-- what is taken of four slices in a row is taken of the whole
pub taken-of_four : {E : Type 0} (old new : Option (List ℕ)) (r : Result ℕ E) (s1 s2 s3 s4 : IoSlice)
    (f1 f2 f3 f4 whole b1 b2 b3 b4 : List ℕ)
    → io_slice_bytes s1 ≡ f1 → io_slice_bytes s2 ≡ f2 → io_slice_bytes s3 ≡ f3 → io_slice_bytes s4 ≡ f4
    → whole ≡ f1 ++ b1 → b1 ≡ f2 ++ b2 → b2 ≡ f3 ++ b3 → b3 ≡ f4 ++ b4
    → WritesAtMost r (io_slices_bytes (s1 ∷ s2 ∷ s3 ∷ s4 ∷ []))
    → WriteAppends old new r (io_slices_bytes (s1 ∷ s2 ∷ s3 ∷ s4 ∷ []))
    → WriteAppends old new r whole
taken-of_four old new r s1 s2 s3 s4 f1 f2 f3 f4 whole b1 b2 b3 b4 i1 i2 i3 i4 e1 e2 e3 e4 most taken =
    let last : b3 ≡ io_slices_bytes (s4 ∷ []) ++ b4 = longer s4 [] f4 b3 b4 b4 i4 e4 refl in
    let third : b2 ≡ io_slices_bytes (s3 ∷ s4 ∷ []) ++ b4 = longer s3 (s4 ∷ []) f3 b2 b3 b4 i3 e3 last in
    let second : b1 ≡ io_slices_bytes (s2 ∷ s3 ∷ s4 ∷ []) ++ b4 = longer s2 (s3 ∷ s4 ∷ []) f2 b1 b2 b4 i2 e2 third in
    let is : whole ≡ io_slices_bytes (s1 ∷ s2 ∷ s3 ∷ s4 ∷ []) ++ b4 = longer s1 (s2 ∷ s3 ∷ s4 ∷ []) f1 whole b1 b4 i1 e1 second in
    subst (λ (xs : List ℕ). WriteAppends old new r xs) (sym is)
    (taken-of_front old new r (io_slices_bytes (s1 ∷ s2 ∷ s3 ∷ s4 ∷ [])) b4 most taken)
