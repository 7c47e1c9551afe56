-- What holds of each connection of a worker, as connections come, change and go.
use Rattle.std.proofs.Common.{◌≡◌, ℕ, zero, suc, List, [], ◌∷◌, Option, Some, None, refl, sym, ◌∙◌, ap, subst, inl, inr}
use Rattle.std.specs.Prelude.{IfSome, slice_index_or, slice_set}
use native.Mathlib.Decide.{ℕ_discrete}
use Rattle.tc_links.specs.Lives.{TalkState}
use Rattle.tc_links.specs.Turns.{WorkerState}
use Rattle.tc_workers.specs.Between.{Enters, MayDrop, Change, Left, Back, AllChanges}

module _ (P : TalkState → Type 0) where
  abbrev pub Held : Option TalkState → Type 0
  Held o = IfSome o P

  abbrev pub AllHeld : List (Option TalkState) → Type 0
  AllHeld links = (key : ℕ) → Held (slice_index_or links key None)

  -- what stands at a place once one was set
  set-at : (links : List (Option TalkState)) (key other : ℕ) (o : Option TalkState) → Held o
      → Held (slice_index_or links other None) → Held (slice_index_or (slice_set links key o) other None)
  set-at [] key other o new old = old
  set-at (x ∷ xs) zero zero o new old = new
  set-at (x ∷ xs) zero (suc n) o new old = old
  set-at (x ∷ xs) (suc k) zero o new old = old
  set-at (x ∷ xs) (suc k) (suc n) o new old = set-at xs k n o new old

  pub held-set : (a b : List (Option TalkState)) (key : ℕ) (o : Option TalkState) → AllHeld a → Held o → b ≡ slice_set a key o
      → AllHeld b
  held-set a b key o all new left =
      λ other. subst (λ (l : List (Option TalkState)). Held (slice_index_or l other None)) (sym left)
      (set-at a key other o new (all other))

  pub held-at : (a : List (Option TalkState)) (key : ℕ) (talk : TalkState) → AllHeld a → slice_index_or a key None ≡ Some talk
      → P talk
  held-at a key talk all at = subst Held at (all key)

  -- a connection that came
  pub held-enters : (talk : TalkState) (a b : List (Option TalkState)) → AllHeld a → P talk → Enters talk a b → AllHeld b
  held-enters talk a b all new x other = go (ℕ_discrete other x.key)
    where
      go : Dec (other ≡ x.key) → Held (slice_index_or b other None)
      go (yes same) = subst Held (sym (ap (λ (n : ℕ). slice_index_or b n None) same ∙ x.held)) new
      go (no apart) = subst Held (sym (x.others other apart)) (all other)

  pub held-changes : (a b : List (Option TalkState)) (cs : List Change) → AllHeld a → AllChanges a cs b → AllHeld b
  held-changes a b [] all same = subst AllHeld (sym same) all
  held-changes a b (Left key ∷ cs) all (next, gone, later) =
      held-changes next b cs (held-set a next key None all tt gone) later
  held-changes a b (Back key ∷ cs) all (next, back, later) =
      let left : AllHeld (slice_set a key None) = held-set a (slice_set a key None) key None all tt refl in
      held-changes next b cs
      (held-enters back.talk (slice_set a key None) next left (held-at a key back.talk all back.held) back.enters) later

  pub held-dropped : (key : ℕ) (a b : WorkerState) → AllHeld a.links → MayDrop key a b → AllHeld b.links
  held-dropped key a b all x = elim x.links [
    | inl same ↦ subst AllHeld (sym same) all
    | inr gone ↦ held-set a.links b.links key None all tt gone
  ]

  -- what holds by another thing that is known
  pub held-as : (Q : TalkState → Type 0) (a : List (Option TalkState)) → ((t : TalkState) → P t → Q t) → AllHeld a
      → (key : ℕ) → IfSome (slice_index_or a key None) Q
  held-as Q a f all key = go (slice_index_or a key None) (all key)
    where
      go : (o : Option TalkState) → Held o → IfSome o Q
      go None h = tt
      go (Some t) h = f t h
