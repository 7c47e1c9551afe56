-- Where keys are, by what slots hold, and the tags under which slots stand.
use Rattle.std.specs.Prelude.{◌==◌, option_map, slice_index_or}
use Rattle.std.specs.List.{position_from}
use Rattle.std.specs.declared.hash.RandomState.{RandomState}
use Rattle.std.proofs.Common.{◌≡◌, ℕ, zero, suc, ◌+◌, ◌<◌, Bool, true, false, cond, List}
use Rattle.std.proofs.Common.{[], ◌∷◌, Option, Some, None, refl, sym, ◌∙◌, ap, subst, arith, eq-eqb, ◌&&◌}
use Rattle.std.proofs.lemmas.Bool.{eqb-true, eqb-false}
use Rattle.std.proofs.lemmas.Slice.Eq.{bytes_eq-Decides}
use Rattle.slab.specs.Slab.{Slab, get as slab_get}
use Rattle.tc_item.specs.declared.slot.Slot.{Slot}
use Rattle.tc_index.specs.Tags.{Tagged, stands, one_at, is_first}
use Rattle.tc_model.specs.Areas.{Areas}
use Rattle.tc_plain.specs.declared.shared.entry.Entry.{Entry}
use Rattle.tc_slru.specs.Slots.{Placed}
use Rattle.tc_slots.specs.Agreement.{set_at, key_of, is_of, slot_of, tag_of, tag_by, Agree}
use Rattle.tc_slots.specs.Held.{AreTagged, Leaves, often_by}

some_same : {A : Type 0} (x y : A) → Some x ≡ Some y → x ≡ y
some_same x y e = cc

-- a slot is of a key where that is the key of what it holds

pub of_key : (o : Option Entry) (key : List ℕ) → is_of key o ≡ true → key_of o ≡ Some key
of_key None key t = absurd (cc (t))
of_key (Some e) key t = ap Some ((bytes_eq-Decides e.key key).0 t)

pub key_is_of : (o : Option Entry) (key : List ℕ) → key_of o ≡ Some key → is_of key o ≡ true
key_is_of None key k = absurd (cc (k))
key_is_of (Some e) key k = (bytes_eq-Decides e.key key).1 (cc k)

-- the first place that passes, counted from a number

first_passes : {X : Type 0} (p : X → Bool) (d : X) (xs : List X) (i n : ℕ) → position_from p i xs ≡ Some n
    → (k : ℕ) × (n ≡ i + k) × (p (slice_index_or xs k d) ≡ true)
first_passes p d [] i n e = absurd (cc (e))
first_passes {X} p d (x ∷ xs) i n e = go (p x) refl (λ f. first_passes p d xs (i + 1) n f) e
  where
    go : (b : Bool) → p x ≡ b
        → (position_from p (i + 1) xs ≡ Some n → (k : ℕ) × (n ≡ i + 1 + k) × (p (slice_index_or xs k d) ≡ true))
        → cond b (Some i) (position_from p (i + 1) xs) ≡ Some n
        → (k : ℕ) × (n ≡ i + k) × (p (slice_index_or (x ∷ xs) k d) ≡ true)
    go true t rest e = (0, omega (arith, some_same i n e), t)
    go false t rest e =
        let later = rest e in
        (suc later.0, omega (arith, later.1), later.2)

none_passes : {X : Type 0} (p : X → Bool) (d : X) → p d ≡ false → (xs : List X) (i : ℕ) → position_from p i xs ≡ None → (k : ℕ)
    → p (slice_index_or xs k d) ≡ false
none_passes p d rest [] i e k = rest
none_passes {X} p d rest (x ∷ xs) i e k = go (p x) refl (λ f n. none_passes p d rest xs (i + 1) f n) e k
  where
    go : (b : Bool) → p x ≡ b → (position_from p (i + 1) xs ≡ None → (n : ℕ) → p (slice_index_or xs n d) ≡ false)
        → cond b (Some i) (position_from p (i + 1) xs) ≡ None → (k : ℕ) → p (slice_index_or (x ∷ xs) k d) ≡ false
    go true t later e k = absurd (cc (e))
    go false t later e zero = t
    go false t later e (suc k) = later e k

-- where each key is follows from what slots hold, where no key is held twice
module _ {I : List ℕ → Option Slot} {D : ℕ → Option ℕ} {a : Areas Placed} (s : Slab Entry) (h : Agree I (slab_get s) D a) where
  where_is : (key : List ℕ) → I key ≡ slot_of s.slots key
  where_is key = go (position_from (is_of key) 0 s.slots) refl
    where
      missed : position_from (is_of key) 0 s.slots ≡ None → (o : Option Slot) → I key ≡ o → o ≡ None
      missed none None e = refl
      missed none (Some v) e =
          let own : is_of key (slab_get s v.0) ≡ true = key_is_of (slab_get s v.0) key (h.indexed key v e) in
          absurd (cc (none_passes (is_of key) None refl s.slots 0 none v.0, own))

      go : (o : Option ℕ) → position_from (is_of key) 0 s.slots ≡ o
          → I key ≡ option_map (λ n. (let v : Slot = record { 0 = n } in v)) o
      go None e = missed e (I key) refl
      go (Some n) e =
          let first = first_passes (is_of key) None s.slots 0 n e in
          let at : first.0 ≡ n = omega (arith, first.1) in
          h.found key (record { 0 = n })
          (of_key (slab_get s n) key (ap (λ k. is_of key (slab_get s k)) (sym at) ∙ first.2))

  pub agree_slots : Agree (slot_of s.slots) (slab_get s) D a
  agree_slots = subst (λ z. Agree z (slab_get s) D a) (λ i key. where_is key i) h

-- once under its own tag
one_here : (tag v t s : ℕ) (b : Bool) → (s == v) ≡ b → one_at tag v t s ≡ cond b (cond (tag == t) 1 0) 0
one_here tag v t s b e = go (tag == t) refl b e
  where
    go : (c : Bool) → (tag == t) ≡ c → (b : Bool) → (s == v) ≡ b → cond {A = ℕ} (c && (v == s)) 1 0 ≡ cond b (cond c 1 0) 0
    go false e true f = refl
    go false e false f = refl
    go true e true f = ap (λ d. cond {A = ℕ} d 1 0) (eq-eqb v s (sym (eqb-true s v f)))
    go true e false f = apart (v == s) refl
      where
        apart : (d : Bool) → (v == s) ≡ d → cond {A = ℕ} d 1 0 ≡ 0
        apart true g = absurd (eqb-false s v f (sym (eqb-true v s g)))
        apart false g = refl

module _ (hasher : RandomState) (i : Tagged) (S T : ℕ → Option Entry) (v : ℕ) (h : AreTagged hasher i S) where
  -- what a slot holds stands there
  pub stands_held : (e : Entry) → S v ≡ Some e → 0 < stands i (tag_of hasher e.key) v
  stands_held e at =
      omega (
        arith,
        h (tag_of hasher e.key) v,
        ap (often_by hasher (tag_of hasher e.key)) at,
        ap (λ b. cond {A = ℕ} b 1 0) (eq-eqb (tag_of hasher e.key) (tag_of hasher e.key) refl),
      )

  -- an entry came
  pub tagged_taken : (j : Tagged) (e : Entry) → S v ≡ None
      → ((tag n : ℕ) → stands j tag n ≡ stands i tag n + one_at (tag_of hasher e.key) v tag n)
      → ((k : ℕ) → T k ≡ set_at v (Some e) S k) → AreTagged hasher j T
  tagged_taken j e vacant came f = λ tag n. go tag n (n == v) refl ∙ ap (often_by hasher tag) (sym (f n))
    where
      go : (tag n : ℕ) (b : Bool) → (n == v) ≡ b → stands j tag n ≡ often_by hasher tag (cond b (Some e) (S n))
      go tag n true t =
          omega (
            arith,
            came tag n,
            h tag n,
            one_here (tag_of hasher e.key) v tag n true t,
            ap (λ k. often_by hasher tag (S k)) (eqb-true n v t),
            ap (often_by hasher tag) vacant,
          )
      go tag n false t = omega (arith, came tag n, h tag n, one_here (tag_of hasher e.key) v tag n false t)

  -- an entry left
  pub tagged_vacated : (j : Tagged) (e : Entry) → S v ≡ Some e → Leaves hasher e v i j
      → ((k : ℕ) → T k ≡ set_at v None S k) → AreTagged hasher j T
  tagged_vacated j e at left f = λ tag n. go tag n (n == v) refl ∙ ap (often_by hasher tag) (sym (f n))
    where
      go : (tag n : ℕ) (b : Bool) → (n == v) ≡ b → stands j tag n ≡ often_by hasher tag (cond b None (S n))
      go tag n true t =
          omega (
            arith,
            left tag n,
            h tag n,
            one_here (tag_of hasher e.key) v tag n true t,
            ap (λ k. often_by hasher tag (S k)) (eqb-true n v t),
            ap (often_by hasher tag) at,
          )
      go tag n false t = omega (arith, left tag n, h tag n, one_here (tag_of hasher e.key) v tag n false t)

  -- an entry came in the place of another of its key
  pub tagged_put : (e x : Entry) → S v ≡ Some e → e.key ≡ x.key → ((k : ℕ) → T k ≡ set_at v (Some x) S k)
      → AreTagged hasher i T
  tagged_put e x at own f =
      λ tag n. h tag n ∙ ap (λ o. cond (is_first o tag) 1 0) (go n (n == v) refl ∙ ap (tag_by hasher) (sym (f n)))
    where
      go : (n : ℕ) → (b : Bool) → (n == v) ≡ b → tag_by hasher (S n) ≡ tag_by hasher (cond b (Some x) (S n))
      go n true t =
          ap (λ k. tag_by hasher (S k)) (eqb-true n v t) ∙ ap (tag_by hasher) at ∙ ap (λ k. Some (tag_of hasher k)) own
      go n false t = refl
