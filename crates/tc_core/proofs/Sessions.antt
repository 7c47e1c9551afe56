-- Sessions under their numbers, as the machine's connections.
use Rattle.std.specs.Prelude.{map, option_map, ◌==◌, nat_lt}
use Rattle.std.specs.Ordering.{nat_cmp, match_ordering, is_eq}
use Rattle.std.specs.Map.{lookup, set_value, keys_of}
use Rattle.std.specs.BTreeMap.{is_at, insert_entry}
use Rattle.std.specs.List.Sorted.{IsStrictlySortedBy}
use Rattle.std.specs.declared.cmp.Ordering.TheVariants.{Less, Equal, Greater}
use Rattle.std.proofs.Common.{◌≡◌, ◌≢◌, ℕ, ◌<◌, Bool, true, false, cond, List, [], ◌∷◌, Some, None, refl, sym, ◌∙◌, ap, arith}
use Rattle.std.proofs.Common.{eq-eqb}
use Rattle.std.proofs.lemmas.Bool.{eqb-true, eqb-false, ltb-true, ne_eqb}
use Rattle.std.proofs.lemmas.Cmp.{nat_cmp_total}
use Rattle.std.proofs.lemmas.Map.Entries.{none_below_head}
use Rattle.std.proofs.lemmas.Map.Keys.{sorted_tail}
use Rattle.std.proofs.lemmas.Map.{lookup-none}
use Rattle.tc_model.specs.Server.{numbered, with_numbered}
use Rattle.tc_session.specs.SessionView.{SessionView}
use Rattle.tc_core.specs.Steps.{connection_of, numbered_of}

-- the test of a key, by its comparison
is_at-same : (c k : ℕ) → is_at (nat_cmp c) k ≡ (k == c)
is_at-same c k = go (nat_lt c k) refl (c == k) refl
  where
    go : (a : Bool) → nat_lt c k ≡ a → (b : Bool) → (c == k) ≡ b → is_eq (cond a Less (cond b Equal Greater)) ≡ (k == c)
    go true e b f = let lt : c < k = ltb-true c k e in sym (ne_eqb k c (λ s. absurd (omega arith)))
    go false e true f = let same : c ≡ k = eqb-true c k f in sym (eq-eqb k c (sym same))
    go false e false f = let apart : c ≢ k = eqb-false c k f in sym (ne_eqb k c (λ s. apart (sym s)))

-- the connection of a number is the session's
pub numbered-sessions : (c : ℕ) (es : List (ℕ × SessionView))
    → numbered c (map numbered_of es) ≡ option_map connection_of (lookup (is_at (nat_cmp c)) es)
numbered-sessions c [] = refl
numbered-sessions c (e ∷ es) = go (e.0 == c) (is_at (nat_cmp c) e.0) (is_at-same c e.0) (numbered-sessions c es)
  where
    go : (a b : Bool) → b ≡ a → numbered c (map numbered_of es) ≡ option_map connection_of (lookup (is_at (nat_cmp c)) es)
        → cond a (Some (connection_of e.1)) (numbered c (map numbered_of es))
        ≡ option_map connection_of (cond b (Some e.1) (lookup (is_at (nat_cmp c)) es))
    go true b f h = rw f refl
    go false b f h = rw f h

-- a session inserted is a connection put in its place
pub with_numbered-insert : (c : ℕ) (s : SessionView) (es : List (ℕ × SessionView))
    → map numbered_of (insert_entry nat_cmp es c s) ≡ with_numbered c (connection_of s) (map numbered_of es)
with_numbered-insert c s [] = refl
with_numbered-insert c s (e ∷ es) = go (nat_lt c e.0) refl (c == e.0) refl (e.0 == c) refl (with_numbered-insert c s es)
  where
    go : (a : Bool) → nat_lt c e.0 ≡ a → (b : Bool) → (c == e.0) ≡ b → (d : Bool) → (e.0 == c) ≡ d
        → map numbered_of (insert_entry nat_cmp es c s) ≡ with_numbered c (connection_of s) (map numbered_of es)
        → map numbered_of (match_ordering (cond a Less (cond b Equal Greater)) ((c, s) ∷ e ∷ es) ((e.0, s) ∷ es)
        (e ∷ insert_entry nat_cmp es c s))
        ≡ cond d ((c, connection_of s) ∷ map numbered_of es)
        (cond a ((c, connection_of s) ∷ numbered_of e ∷ map numbered_of es)
        (numbered_of e ∷ with_numbered c (connection_of s) (map numbered_of es)))
    go true p b q true r h = let lt : c < e.0 = ltb-true c e.0 p in let same : e.0 ≡ c = eqb-true e.0 c r in absurd (omega arith)
    go true p b q false r h = refl
    go false p true q true r h = let same : e.0 ≡ c = eqb-true e.0 c r in ap (λ n. (n, connection_of s) ∷ map numbered_of es) same
    go false p true q false r h = absurd (eqb-false e.0 c r (sym (eqb-true c e.0 q)))
    go false p false q true r h = absurd (eqb-false c e.0 q (sym (eqb-true e.0 c r)))
    go false p false q false r h = ap (λ xs. numbered_of e ∷ xs) h

none_some : {A : Type 0} (x : A) → None ≡ Some x → ⊥
none_some x e = grind arith

-- and so is one written back where it is
pub with_numbered-set : (c : ℕ) (s was : SessionView) (es : List (ℕ × SessionView)) → IsStrictlySortedBy nat_cmp (keys_of es)
    → lookup (is_at (nat_cmp c)) es ≡ Some was
    → map numbered_of (set_value (is_at (nat_cmp c)) es s) ≡ with_numbered c (connection_of s) (map numbered_of es)
with_numbered-set c s was [] sorted at = absurd (grind arith)
with_numbered-set c s was (e ∷ es) sorted at =
    go (nat_lt c e.0) refl (e.0 == c) refl (is_at (nat_cmp c) e.0) (is_at-same c e.0)
    (λ later. with_numbered-set c s was es (sorted_tail nat_cmp e.0 (keys_of es) sorted) later)
  where
    below : nat_lt c e.0 ≡ true → nat_cmp c e.0 ≡ Less
    below p = rw p refl

    none_there : nat_lt c e.0 ≡ true → lookup (is_at (nat_cmp c)) (e ∷ es) ≡ None
    none_there p = lookup-none (is_at (nat_cmp c)) (e ∷ es) (none_below_head nat_cmp_total c e es sorted (below p))

    later_found : nat_lt c e.0 ≡ false → (e.0 == c) ≡ false → lookup (is_at (nat_cmp c)) (e ∷ es) ≡ Some was
        → lookup (is_at (nat_cmp c)) es ≡ Some was
    later_found p q found = let no : is_at (nat_cmp c) e.0 ≡ false = is_at-same c e.0 ∙ q in rw no at found

    go : (a : Bool) → nat_lt c e.0 ≡ a → (d : Bool) → (e.0 == c) ≡ d → (b : Bool) → b ≡ d
        → (lookup (is_at (nat_cmp c)) es ≡ Some was
        → map numbered_of (set_value (is_at (nat_cmp c)) es s) ≡ with_numbered c (connection_of s) (map numbered_of es))
        → map numbered_of (cond b ((e.0, s) ∷ es) (e ∷ set_value (is_at (nat_cmp c)) es s))
        ≡ cond d ((c, connection_of s) ∷ map numbered_of es)
        (cond a ((c, connection_of s) ∷ numbered_of e ∷ map numbered_of es)
        (numbered_of e ∷ with_numbered c (connection_of s) (map numbered_of es)))
    go true p d q b f h = absurd (none_some was (sym (none_there p) ∙ at))
    go false p true q b f h =
        rw f (let same : e.0 ≡ c = eqb-true e.0 c q in ap (λ n. (n, connection_of s) ∷ map numbered_of es) same)
    go false p false q b f h = rw f (ap (λ xs. numbered_of e ∷ xs) (h (later_found p q at)))
