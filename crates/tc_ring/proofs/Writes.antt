-- What a write to one node does to the lists of links.
use Rattle.std.specs.Prelude.{map, slice_set, slice_index, slice_index_or, replicate}
use Rattle.std.proofs.Common.{◌≡◌, ℕ, zero, suc, ◌-◌, ◌<◌, List, ◌∷◌, ◌++◌, length, refl, sym, ◌∙◌, ap, arith}
use Rattle.std.proofs.Math.Seq.{map-set_same}
use Rattle.std.proofs.lemmas.List.{get_or-map, length-map, map-append, map-set}
use Rattle.tc_ring.specs.Lengthening.{lengthened}
use Rattle.tc_ring.specs.Links.{Links, grown, linked_behind, noted, unlinked}
use Rattle.tc_ring.specs.Nodes.{links}
use Rattle.tc_ring.specs.declared.ring.Node.{Node}

-- a write that keeps a field of the value at its place keeps it everywhere
pub kept_field : {A B : Type 0} (f : A → B) (xs : List A) (at : ℕ) (n x : A) → n ≡ slice_index_or xs at n → f x ≡ f n
    → map f (slice_set xs at x) ≡ map f xs
kept_field f xs at n x w e = map-set_same f xs at x n (e ∙ ap f w)

pub map-replicate : {A B : Type 0} (f : A → B) (n : ℕ) (x : A) → map f (replicate n x) ≡ replicate n (f x)
map-replicate f zero x = refl
map-replicate f (suc n) x = ap (λ t. f x ∷ t) (map-replicate f n x)

pub grown_field : {A B : Type 0} (f : A → B) (xs : List A) (k : ℕ) (x : A)
    → map f (xs ++ replicate k x) ≡ map f xs ++ replicate k (f x)
grown_field f xs k x = map-append f xs (replicate k x) ∙ ap (λ t. map f xs ++ t) (map-replicate f k x)

module _ {N : Type 0} where
  same_links : (a b c d : List ℕ) (e f : List N) → a ≡ b → c ≡ d → e ≡ f
      → (let l : Links N = record { next = a; prev = c; notes = e } in l) ≡ record { next = b; prev = d; notes = f }
  same_links a b c d e f p q r = cc

  pub next_written : (ns : List (Node N)) (at to : ℕ) (n : Node N) → n ≡ slice_index_or ns at n
      → links (slice_set ns at (record n { next = to })) ≡ record (links ns) { next = slice_set (links ns).next at to }
  next_written ns at to n w =
      let x : Node N = record n { next = to } in
      same_links _ _ _ _ _ _ (map-set (λ n. n.next) ns at x) (kept_field (λ n. n.prev) ns at n x w refl)
      (kept_field (λ n. n.note) ns at n x w refl)

  pub prev_written : (ns : List (Node N)) (at to : ℕ) (n : Node N) → n ≡ slice_index_or ns at n
      → links (slice_set ns at (record n { prev = to })) ≡ record (links ns) { prev = slice_set (links ns).prev at to }
  prev_written ns at to n w =
      let x : Node N = record n { prev = to } in
      same_links _ _ _ _ _ _ (kept_field (λ n. n.next) ns at n x w refl) (map-set (λ n. n.prev) ns at x)
      (kept_field (λ n. n.note) ns at n x w refl)

  pub node_written : (ns : List (Node N)) (at : ℕ) (x : Node N) → links (slice_set ns at x) ≡ record {
    next = slice_set (links ns).next at x.next;
    prev = slice_set (links ns).prev at x.prev;
    notes = slice_set (links ns).notes at x.note;
  }
  node_written ns at x =
      same_links _ _ _ _ _ _ (map-set (λ n. n.next) ns at x) (map-set (λ n. n.prev) ns at x) (map-set (λ n. n.note) ns at x)

  pub note_written : (ns : List (Node N)) (at : ℕ) (note : N) (n : Node N) → n ≡ slice_index_or ns at n
      → links (slice_set ns at (record n { note = note })) ≡ record (links ns) { notes = slice_set (links ns).notes at note }
  note_written ns at note n w =
      let x : Node N = record n { note = note } in
      same_links _ _ _ _ _ _ (kept_field (λ n. n.next) ns at n x w refl) (kept_field (λ n. n.prev) ns at n x w refl)
      (map-set (λ n. n.note) ns at x)

  -- a node is taken out by the links that it has
  pub unlinked_by : (at before after : ℕ) (l m : Links N) → before ≡ slice_index l.prev at → after ≡ slice_index l.next at
      → m ≡ record l { next = slice_set l.next before after }
      → (let o : Links N = record m { prev = slice_set m.prev after before } in o) ≡ unlinked at l
  unlinked_by at before after l m e f g = cc

  -- a node is put in by three writes: of the one before it, of its own, and of the one behind it
  pub linked_by : (at before after : ℕ) (note : N) (l p q : Links N) → after ≡ slice_index l.next before
      → p ≡ record l { next = slice_set l.next before at } → q ≡ record {
        next = slice_set p.next at after;
        prev = slice_set p.prev at before;
        notes = slice_set p.notes at note;
      }
      → (let o : Links N = record q { prev = slice_set q.prev after at } in o)
      ≡ noted at note (linked_behind before at l)
  linked_by at before after note l p q e f g = cc

  -- nodes that come
  pub links-lengthened : (n : ℕ) (free : N) (ns : List (Node N))
      → links (lengthened n (record { next = 0; prev = 0; note = free }) ns) ≡ grown n free (links ns)
  links-lengthened n free ns =
      let x : Node N = record { next = 0; prev = 0; note = free } in
      let k : ℕ = n - length (links ns).next in
      let more : n - length ns ≡ k = omega (arith, length-map ns (λ (n : Node N). n.next)) in
      ap (λ j. links (ns ++ replicate j x)) more
      ∙ same_links _ _ _ _ _ _ (grown_field (λ n. n.next) ns k x) (grown_field (λ n. n.prev) ns k x)
      (grown_field (λ n. n.note) ns k x)

-- a field of what is read at a place
pub field_read : {A B : Type 0} (f : A → B) (xs : List A) (at : ℕ) (x : A) (d : B) → at < length xs
    → x ≡ slice_index_or xs at x → f x ≡ slice_index_or (map f xs) at d
field_read f xs at x d small is = ap f is ∙ sym (get_or-map f xs at x d small)
