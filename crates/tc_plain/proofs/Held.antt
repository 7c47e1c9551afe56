-- What is held under each key, as entries are placed: said by a map from keys to items.
use Rattle.std.specs.Prelude.{not, is_some, filter, find}
use Rattle.std.specs.Str.{bytes_eq}
use Rattle.std.proofs.Common.{◌≡◌, ℕ, Bool, true, false, cond, List, [], ◌∷◌, ◌++◌, Option, Some, None, refl, sym, ◌∙◌, ap, subst}
use Rattle.std.proofs.Common.{arith}
use Rattle.std.proofs.lemmas.Slice.Eq.{bytes_eq-Decides}
use Rattle.tc_model.specs.Areas.{Areas, Limits, accessed}
use Rattle.tc_model.proofs.Every.{Every, Every-append, Every-filter, EveryIn, EveryIn-weaker, EveryIn-accessed}
use Rattle.tc_item.specs.declared.item.Item.{Item}
use Rattle.tc_plain.specs.declared.shared.entry.Entry.{Entry}
use Rattle.tc_plain.specs.Entries.{lives, weight, has_key}
use Rattle.tc_plain.specs.EvictionState.{EvictionState, held, entries_of}
use Rattle.tc_plain.specs.Placing.{at_front, put_in, without_key, placed}

-- what stands under each key
abbrev pub Map : Type 0
Map = List ℕ → Option Item

-- an entry is what stands under its key, and it is alive
abbrev pub IsIn : Map → ℕ → Entry → Type 0
IsIn c m e = (c e.key ≡ Some e.item) × (lives m e ≡ true)

-- each entry held is what stands under its key
abbrev pub Matches : Map → ℕ → Areas Entry → Type 0
Matches c m a = EveryIn (IsIn c m) a

pub Matches-same : (c d : Map) (m : ℕ) (a : Areas Entry) → ((key : List ℕ) → d key ≡ c key) → Matches c m a → Matches d m a
Matches-same c d m a f h = EveryIn-weaker (IsIn c m) (IsIn d m) (λ e g. (f e.key ∙ g.0, g.1)) a h

-- what a search finds passes, and is in the list
pub found : (P : Entry → Type 0) (p : Entry → Bool) (xs : List Entry) (e : Entry) → find p xs ≡ Some e → Every P xs
    → (p e ≡ true) × P e
found P p [] e f h = absurd (grind (arith, f))
found P p (x ∷ xs) e f h = go (p x) refl f (λ g. found P p xs e g h.1)
  where
    go : (b : Bool) → p x ≡ b → cond b (Some x) (find p xs) ≡ Some e → (find p xs ≡ Some e → (p e ≡ true) × P e)
        → (p e ≡ true) × P e
    go true t g later = let same : x ≡ e = cc in subst (λ (y : Entry). (p y ≡ true) × P y) same (t, h.0)
    go false t g later = later g

-- where a search finds nothing, nothing passes
pub missed : (P Q : Entry → Type 0) (p : Entry → Bool) (xs : List Entry) → find p xs ≡ None
    → ((x : Entry) → p x ≡ false → P x → Q x) → Every P xs → Every Q xs
missed P Q p [] f g h = tt
missed P Q p (x ∷ xs) f g h = go (p x) refl f (λ n. missed P Q p xs n g h.1)
  where
    go : (b : Bool) → p x ≡ b → cond b (Some x) (find p xs) ≡ None → (find p xs ≡ None → Every Q xs) → Q x × Every Q xs
    go true t n later = absurd (grind (arith, n))
    go false t n later = (g x t h.0, later n)

left : (P : Entry → Type 0) (xs ys : List Entry) → Every P (xs ++ ys) → Every P xs
left P [] ys h = tt
left P (x ∷ xs) ys h = (h.0, left P xs ys h.1)

right : (P : Entry → Type 0) (xs ys : List Entry) → Every P (xs ++ ys) → Every P ys
right P [] ys h = h
right P (x ∷ xs) ys h = right P xs ys h.1

pub all_of : (P : Entry → Type 0) (a : Areas Entry) → EveryIn P a → Every P (entries_of a)
all_of P a h =
    Every-append P a.window (a.probation ++ a.protected) h.window (Every-append P a.probation a.protected h.probation h.protected)

pub in_areas : (P : Entry → Type 0) (a : Areas Entry) → Every P (entries_of a) → EveryIn P a
in_areas P a h =
    let rest = right P a.window (a.probation ++ a.protected) h in
    record {
      window = left P a.window (a.probation ++ a.protected) h;
      probation = left P a.probation a.protected rest;
      protected = right P a.probation a.protected rest;
    }

-- what is held under a key is under this key, and stands there
pub held_matches : (c : Map) (m : ℕ) (key : List ℕ) (a : Areas Entry) (e : Entry) → held key a ≡ Some e → Matches c m a
    → (e.key ≡ key) × (c key ≡ Some e.item) × (lives m e ≡ true)
held_matches c m key a e f h =
    let r = found (IsIn c m) (has_key key) (entries_of a) e f (all_of (IsIn c m) a h) in
    let same : e.key ≡ key = (bytes_eq-Decides e.key key).0 r.0 in
    (same, ap c (sym same) ∙ r.1.0, r.1.1)

-- where nothing is held under a key, what stands there may change
pub unheld_matches : (c d : Map) (m : ℕ) (key : List ℕ) (a : Areas Entry) → held key a ≡ None
    → ((q : List ℕ) → bytes_eq q key ≡ false → d q ≡ c q) → Matches c m a → Matches d m a
unheld_matches c d m key a f g h =
    in_areas (IsIn d m) a
    (missed (IsIn c m) (IsIn d m) (has_key key) (entries_of a) f (λ x n p. (g x.key n ∙ p.0, p.1)) (all_of (IsIn c m) a h))

pub not_false : (b : Bool) → not b ≡ true → b ≡ false
not_false true h = absurd (grind (arith, h))
not_false false h = refl

-- where what a key held is taken out, what stands there may change
pub without_key_matches : (c d : Map) (m : ℕ) (key : List ℕ) (a : Areas Entry)
    → ((q : List ℕ) → bytes_eq q key ≡ false → d q ≡ c q) → Matches c m a → Matches d m (without_key key a)
without_key_matches c d m key a g h =
    let f : (xs : List Entry) → Every (IsIn c m) xs → Every (IsIn d m) (filter (λ x. not (has_key key x)) xs) =
    λ xs e. Every-filter (IsIn c m) (IsIn d m) (λ x. not (has_key key x))
    (λ x n p. (g x.key (not_false (has_key key x) n) ∙ p.0, p.1)) xs e in
    record { window = f a.window h.window; probation = f a.probation h.probation; protected = f a.protected h.protected }

put_in_matches : (c d : Map) (m : ℕ) (limits : Limits) (e : Entry) (a : Areas Entry)
    → ((q : List ℕ) → bytes_eq q e.key ≡ false → d q ≡ c q) → IsIn d m e → Matches c m a → Matches d m (put_in limits e a)
put_in_matches c d m limits e a g new h = go (held e.key a) refl
  where
    go : (o : Option Entry) → held e.key a ≡ o
        → Matches d m (cond (is_some o) (accessed weight limits (has_key e.key) e a) (at_front e a))
    go None f =
        let w = unheld_matches c d m e.key a f g h in
        record { window = (new, w.window); probation = w.probation; protected = w.protected }
    go (Some x) f =
        EveryIn-accessed (IsIn c m) (IsIn d m) weight limits (has_key e.key) e a
        (λ y n p. (g y.key (not_false (has_key e.key y) n) ∙ p.0, p.1)) new h

-- an entry that is placed may change what stands under its key, and nothing else
pub placed_matches : (c d : Map) (e : Entry) (l : EvictionState) → ((q : List ℕ) → bytes_eq q e.key ≡ false → d q ≡ c q)
    → d e.key ≡ Some e.item → Matches c l.moment l.areas → Matches d l.moment (placed l e)
placed_matches c d e l g new h = go (lives l.moment e) refl
  where
    go : (b : Bool) → lives l.moment e ≡ b → Matches d l.moment (cond b (put_in l.limits e l.areas) (without_key e.key l.areas))
    go true t = put_in_matches c d l.moment l.limits e l.areas g (new, t) h
    go false t = without_key_matches c d l.moment e.key l.areas g h
