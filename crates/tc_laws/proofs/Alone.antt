-- What a user's connection does by the whole table it does by a table of that user alone.
use Rattle.std.specs.Prelude.{◌||◌, option_map}
use Rattle.std.proofs.Common.{◌≡◌, ℕ, zero, suc, Bool, true, false, ◌⊎◌, inl, inr, List, [], ◌∷◌, ◌++◌, Option, Some, None, refl}
use Rattle.std.proofs.Common.{sym}
use Rattle.std.proofs.Common.{◌∙◌, ap, subst, eq-eqb, arith, slice_get}
use Rattle.std.proofs.lemmas.Bool.{eqb-true, cases_Bool, or_cases, false≢true}
use Rattle.tc_model.specs.Connection.{Asks, Idle, Tell, Login, Leave, Wants, Rest, Reply, Run, Quit, Phase, Unbound, Bound}
use Rattle.tc_model.specs.Connection.{Closed}
use Rattle.tc_model.specs.Connection.{Endpoint, Happening, Open, Piece, Act, Shut, user_at, first_row, login, Want, Nothing, Said}
use Rattle.tc_model.specs.Connection.{Call, Close, Turn, login_turn, unbound_turn, bound_turn, turn_at, turn, pushed_at}
use Rattle.tc_model.specs.Connection.{endpoint_after}
use Rattle.tc_model.specs.Connection.{is_closed}
use Rattle.tc_model.specs.Server.{Machine, is_bound_to, is_users, binds_from}
use Rattle.tc_laws.proofs.Merging.{Silent, Calls}
use Rattle.tc_laws.proofs.Running.{DeedOf, happening_at, Fits, AllFit, NeedsNone}
use Rattle.tc_laws.proofs.Opening.{steps_at}

some-same : {A : Type 0} (x y : A) → Some x ≡ Some y → x ≡ y
some-same x y e = grind arith

suc_never_zero : (o : Option ℕ) → option_map suc o ≡ Some zero → ⊥
suc_never_zero None e = grind arith
suc_never_zero (Some n) e = grind arith

suc_of_some : (o : Option ℕ) (i : ℕ) → option_map suc o ≡ Some (suc i) → o ≡ Some i
suc_of_some None i e = grind arith
suc_of_some (Some n) i e = grind arith

suc_of_none : (o : Option ℕ) → option_map suc o ≡ None → o ≡ None
suc_of_none None e = refl
suc_of_none (Some n) e = grind arith

-- the phase in a table of one row
abbrev pub alone_phase : Phase → Phase
alone_phase Unbound = Unbound
alone_phase (Bound v) = Bound 1
alone_phase Closed = Closed

pub closed-alone : (p : Phase) → is_closed (alone_phase p) ≡ is_closed p
closed-alone Unbound = refl
closed-alone (Bound v) = refl
closed-alone Closed = refl

-- bound to this user, or closed
abbrev pub StaysWith : ℕ → Phase → Type 0
StaysWith v Unbound = ⊥
StaysWith v (Bound w) = w ≡ v
StaysWith v Closed = Unit {0}

module _ (M : Machine) (rows : List M.protocol.Row) (u : ℕ) (row : M.protocol.Row) (at : user_at rows u ≡ Some row) where
  opens-found : (rs : List M.protocol.Row) (i : ℕ) (text : List ℕ) → slice_get rs i ≡ Some row
      → first_row M.protocol rs text ≡ Some i → M.protocol.opens row text ≡ true
  opens-found [] i text here h = grind arith
  opens-found (r ∷ rs) zero text here h =
      grind (arith, some-same r row here, cases_Bool (M.protocol.opens r text), suc_never_zero (first_row M.protocol rs text))
  opens-found (r ∷ rs) (suc i) text here h =
      grind (
        arith,
        cases_Bool (M.protocol.opens r text),
        suc_of_some (first_row M.protocol rs text) i,
        opens-found rs i text here,
      )

  opens-none : (rs : List M.protocol.Row) (i : ℕ) (text : List ℕ) → slice_get rs i ≡ Some row
      → first_row M.protocol rs text ≡ None → M.protocol.opens row text ≡ false
  opens-none [] i text here h = grind arith
  opens-none (r ∷ rs) zero text here h = grind (arith, some-same r row here, cases_Bool (M.protocol.opens r text))
  opens-none (r ∷ rs) (suc i) text here h =
      grind (
        arith,
        cases_Bool (M.protocol.opens r text),
        suc_of_none (first_row M.protocol rs text),
        opens-none rs i text here,
      )

  login-found : (v : ℕ) (text : List ℕ) → user_at rows v ≡ Some row → login M.protocol rows text ≡ Some v
      → login M.protocol (row ∷ []) text ≡ Some 1
  login-found zero text here h = grind arith
  login-found (suc i) text here h = rw (opens-found rows i text here (suc_of_some _ _ h))

  login-none : (v : ℕ) (text : List ℕ) → user_at rows v ≡ Some row → login M.protocol rows text ≡ None
      → login M.protocol (row ∷ []) text ≡ None
  login-none zero text here h = grind arith
  login-none (suc i) text here h = rw (opens-none rows i text here (suc_of_none _ h))

  -- ---- a connection alone
  abbrev pub alone : Endpoint M.protocol → Endpoint M.protocol
  alone e = record { phase = alone_phase e.phase; reader = e.reader }

  abbrev alone_want : Want M.Command → Want M.Command
  alone_want Nothing = Nothing
  alone_want Said = Said
  alone_want (Call v command) = Call 1 command
  alone_want Close = Close

  abbrev alone_turn : Turn M.protocol → Turn M.protocol
  alone_turn t = record { want = alone_want t.want; said = t.said; endpoint = alone t.endpoint }

  bound-alone : (v : ℕ) (r : M.protocol.Reader) (w : Wants M.Command)
      → bound_turn M.protocol 1 r w ≡ alone_turn (bound_turn M.protocol v r w)
  bound-alone v r Rest = refl
  bound-alone v r (Reply text) = refl
  bound-alone v r (Run command) = refl
  bound-alone v r (Quit text) = refl

  -- where a turn binds a connection, it binds it to the user
  abbrev Binds : Turn M.protocol → Type 0
  Binds t = (v : ℕ) → t.endpoint.phase ≡ Bound v → v ≡ u

  login-alone : (r : M.protocol.Reader) (text granted denied : List ℕ) (o : Option ℕ) → login M.protocol rows text ≡ o
      → Binds (login_turn M.protocol r granted denied o)
      → login_turn M.protocol r granted denied (login M.protocol (row ∷ []) text)
      ≡ alone_turn (login_turn M.protocol r granted denied o)
  login-alone r text granted denied None e only =
      ap (login_turn M.protocol r granted denied) (login-none u text at e)
  login-alone r text granted denied (Some v) e only =
      ap (login_turn M.protocol r granted denied) (login-found u text at (e ∙ ap Some (only v refl)))

  unbound-alone : (r : M.protocol.Reader) (a : Asks) → Binds (unbound_turn M.protocol rows r a)
      → unbound_turn M.protocol (row ∷ []) r a ≡ alone_turn (unbound_turn M.protocol rows r a)
  unbound-alone r Idle only = refl
  unbound-alone r (Tell text) only = refl
  unbound-alone r (Login text granted denied) only =
      login-alone r text granted denied (login M.protocol rows text) refl only
  unbound-alone r (Leave text) only = refl

  turn-alone : (p : Phase) (r : M.protocol.Reader) → (p ≡ Unbound → Binds (turn_at M.protocol rows r p))
      → turn_at M.protocol (row ∷ []) r (alone_phase p) ≡ alone_turn (turn_at M.protocol rows r p)
  turn-alone Unbound r only = unbound-alone (M.protocol.unbound r).1 (M.protocol.unbound r).0 (only refl)
  turn-alone (Bound v) r only = bound-alone v (M.protocol.bound r).1 (M.protocol.bound r).0
  turn-alone Closed r only = refl

  pushed-alone : (p : Phase) (r : M.protocol.Reader) (bytes : List ℕ)
      → pushed_at M.protocol r bytes (alone_phase p) ≡ alone (pushed_at M.protocol r bytes p)
  pushed-alone Unbound r bytes = refl
  pushed-alone (Bound v) r bytes = refl
  pushed-alone Closed r bytes = refl

  needs-alone : (w : Want M.Command) → NeedsNone M rows u w → NeedsNone M (row ∷ []) 1 (alone_want w)
  needs-alone Nothing none = tt
  needs-alone Said none = tt
  needs-alone (Call v command) none = none
  needs-alone Close none = tt

  alone-some : (e next f : Endpoint M.protocol) → f ≡ alone e → Some e ≡ Some next → Some f ≡ Some (alone next)
  alone-some e next f is same = ap Some (is ∙ ap alone (some-same e next same))

  phase-same : (e next : Endpoint M.protocol) → Some e ≡ Some next → e.phase ≡ next.phase
  phase-same e next same = ap (λ (f : Endpoint M.protocol). f.phase) (some-same e next same)

  fit-alone : (e : Endpoint M.protocol) (d : DeedOf M) (next : Endpoint M.protocol) (said : List ℕ)
      → (e.phase ≡ Unbound → (v : ℕ) → next.phase ≡ Bound v → v ≡ u) → Fits M rows u e d next said
      → Fits M (row ∷ []) 1 (alone e) d (alone next) said
  fit-alone e (Silent Open) next said only h = record { steps = alone-some e next (alone e) refl h.steps; says = h.says }
  fit-alone e (Silent (Piece bytes)) next said only h = record {
    steps =
        alone-some (pushed_at M.protocol e.reader bytes e.phase) next _ (pushed-alone e.phase e.reader bytes) h.steps;
    says = h.says;
  }
  fit-alone e (Silent Act) next said only h =
      let t : Turn M.protocol = turn M.protocol rows e in
      let is : turn M.protocol (row ∷ []) (alone e) ≡ alone_turn t =
      turn-alone e.phase e.reader (λ free v bound. only free v (sym (phase-same t.endpoint next h.steps) ∙ bound)) in
      record {
        steps = alone-some t.endpoint next _ (ap (λ (s : Turn M.protocol). s.endpoint) is) h.steps;
        says = (
          subst (λ (s : Turn M.protocol). NeedsNone M (row ∷ []) 1 s.want) (sym is) (needs-alone t.want h.says.0),
          h.says.1 ∙ sym (ap (λ (s : Turn M.protocol). s.said) is),
        );
      }
  fit-alone e (Silent Shut) next said only h = record { steps = alone-some _ next _ refl h.steps; says = h.says }
  fit-alone e (Calls v) next said only h =
      let t : Turn M.protocol = turn M.protocol rows e in
      let is : turn M.protocol (row ∷ []) (alone e) ≡ alone_turn t =
      turn-alone e.phase e.reader (λ free w bound. only free w (sym (phase-same t.endpoint next h.steps) ∙ bound)) in
      record {
        steps = alone-some t.endpoint next _ (ap (λ (s : Turn M.protocol). s.endpoint) is) h.steps;
        says = (
          ap (λ (s : Turn M.protocol). s.want) is ∙ ap alone_want h.says.0,
          h.says.1
              ∙ ap (λ (xs : List ℕ). xs ++ M.protocol.render v.command v.outcome) (sym (ap (λ (s : Turn M.protocol). s.said) is)),
        );
      }

  -- ---- whose a connection is, by its deeds
  abbrev next_at : Happening → Endpoint M.protocol → Endpoint M.protocol
  next_at Open e = e
  next_at (Piece bytes) e = pushed_at M.protocol e.reader bytes e.phase
  next_at Act e = (turn M.protocol rows e).endpoint
  next_at Shut e = record { phase = Closed; reader = e.reader }

  next_at-is : (x : Happening) (e : Endpoint M.protocol) → endpoint_after M.protocol rows x (Some e) ≡ Some (next_at x e)
  next_at-is Open e = refl
  next_at-is (Piece bytes) e = refl
  next_at-is Act e = refl
  next_at-is Shut e = refl

  stays-turn : (v : ℕ) (r : M.protocol.Reader) (w : Wants M.Command) → StaysWith v (bound_turn M.protocol v r w).endpoint.phase
  stays-turn v r Rest = refl
  stays-turn v r (Reply text) = refl
  stays-turn v r (Run command) = refl
  stays-turn v r (Quit text) = tt

  stays-act : (v : ℕ) (p : Phase) (r : M.protocol.Reader) → StaysWith v p
      → StaysWith v (turn_at M.protocol rows r p).endpoint.phase
  stays-act v Unbound r h = absurd h
  stays-act v (Bound w) r h =
      subst (λ n. StaysWith n (turn_at M.protocol rows r (Bound w)).endpoint.phase) h
      (stays-turn w (M.protocol.bound r).1 (M.protocol.bound r).0)
  stays-act v Closed r h = tt

  stays-pushed : (v : ℕ) (p : Phase) (r : M.protocol.Reader) (bytes : List ℕ) → StaysWith v p
      → StaysWith v (pushed_at M.protocol r bytes p).phase
  stays-pushed v Unbound r bytes h = absurd h
  stays-pushed v (Bound w) r bytes h = h
  stays-pushed v Closed r bytes h = tt

  stays-next : (v : ℕ) (x : Happening) (e : Endpoint M.protocol) → StaysWith v e.phase → StaysWith v (next_at x e).phase
  stays-next v Open e h = h
  stays-next v (Piece bytes) e h = stays-pushed v e.phase e.reader bytes h
  stays-next v Act e h = stays-act v e.phase e.reader h
  stays-next v Shut e h = tt

  -- it is bound to the user now, or after one of these deeds
  abbrev binds_ahead : Option (Endpoint M.protocol) → List (DeedOf M) → Bool
  binds_ahead f [] = is_users M.protocol u f
  binds_ahead f (d ∷ ds) =
      is_users M.protocol u f || binds_ahead (endpoint_after M.protocol rows (happening_at M d) f) ds

  binds_ahead-is : (c : ℕ) (f : Option (Endpoint M.protocol)) (ds : List (DeedOf M))
      → binds_from M.protocol rows u c f (steps_at M c ds) ≡ binds_ahead f ds
  binds_ahead-is c f [] = refl
  binds_ahead-is c f (d ∷ ds) =
      rw (eq-eqb c c refl) (ap (λ b. is_users M.protocol u f || b)
      (binds_ahead-is c (endpoint_after M.protocol rows (happening_at M d) f) ds))

  now-or-later : (e : Endpoint M.protocol) (d : DeedOf M) (ds : List (DeedOf M)) → binds_ahead (Some e) (d ∷ ds) ≡ true
      → (is_users M.protocol u (Some e) ≡ true)
      ⊎ (binds_ahead (endpoint_after M.protocol rows (happening_at M d) (Some e)) ds ≡ true)
  now-or-later e d ds b =
      or_cases (is_users M.protocol u (Some e)) (binds_ahead (endpoint_after M.protocol rows (happening_at M d) (Some e)) ds) b

  stays-user : (v : ℕ) (p : Phase) → StaysWith v p → is_bound_to u p ≡ true → v ≡ u
  stays-user v Unbound h e = absurd h
  stays-user v (Bound w) h e = sym h ∙ eqb-true w u e
  stays-user v Closed h e = absurd (false≢true e)

  stays-only : (v : ℕ) (e : Endpoint M.protocol) (ds : List (DeedOf M)) → StaysWith v e.phase
      → binds_ahead (Some e) ds ≡ true → v ≡ u
  stays-only v e [] h b = stays-user v e.phase h b
  stays-only v e (d ∷ ds) h b =
      go (now-or-later e d ds b)
      (stays-only v (next_at (happening_at M d) e) ds (stays-next v (happening_at M d) e h))
    where
      go : (is_users M.protocol u (Some e) ≡ true)
          ⊎ (binds_ahead (endpoint_after M.protocol rows (happening_at M d) (Some e)) ds ≡ true)
          → (binds_ahead (Some (next_at (happening_at M d) e)) ds ≡ true → v ≡ u) → v ≡ u
      go (inl now) later = stays-user v e.phase h now
      go (inr then) later =
          later (subst (λ f. binds_ahead f ds ≡ true) (next_at-is (happening_at M d) e) then)

  of-user : (p : Phase) → is_bound_to u p ≡ true → StaysWith u p
  of-user Unbound e = absurd (false≢true e)
  of-user (Bound w) e = eqb-true w u e
  of-user Closed e = tt

  -- it is closed, or bound to the user at some point from now on
  abbrev pub IsAhead : Endpoint M.protocol → List (DeedOf M) → Type 0
  IsAhead e ds = (is_closed e.phase ≡ true) ⊎ (binds_ahead (Some e) ds ≡ true)

  with-both : (p : Phase) → StaysWith 0 p → StaysWith 1 p → is_closed p ≡ true
  with-both Unbound a b = absurd a
  with-both (Bound w) a b = absurd (omega (arith, a, b))
  with-both Closed a b = refl

  closed-with : (v : ℕ) (p : Phase) → is_closed p ≡ true → StaysWith v p
  closed-with v Unbound e = absurd (false≢true e)
  closed-with v (Bound w) e = absurd (false≢true e)
  closed-with v Closed e = tt

  ahead-with : (e : Endpoint M.protocol) (ds : List (DeedOf M)) → StaysWith u e.phase → IsAhead e ds
  ahead-with e ds h = go e.phase refl h ds
    where
      go : (p : Phase) → e.phase ≡ p → StaysWith u p → (ds : List (DeedOf M)) → IsAhead e ds
      go Unbound is h ds = absurd h
      go (Bound w) is h [] = inr (rw is (eq-eqb w u h))
      go (Bound w) is h (d ∷ ds) = inr (rw is (rw (eq-eqb w u h) refl))
      go Closed is h ds = inl (rw is refl)

  pub ahead-next : (e : Endpoint M.protocol) (d : DeedOf M) (ds : List (DeedOf M)) (next : Endpoint M.protocol)
      → endpoint_after M.protocol rows (happening_at M d) (Some e) ≡ Some next → IsAhead e (d ∷ ds) → IsAhead next ds
  ahead-next e d ds next steps ahead = go ahead
    where
      is : next_at (happening_at M d) e ≡ next
      is = some-same (next_at (happening_at M d) e) next (sym (next_at-is (happening_at M d) e) ∙ steps)

      stays : (v : ℕ) → StaysWith v e.phase → StaysWith v next.phase
      stays v h = subst (λ (f : Endpoint M.protocol). StaysWith v f.phase) is (stays-next v (happening_at M d) e h)

      then : (is_users M.protocol u (Some e) ≡ true)
          ⊎ (binds_ahead (endpoint_after M.protocol rows (happening_at M d) (Some e)) ds ≡ true) → IsAhead next ds
      then (inl now) = ahead-with next ds (stays u (of-user e.phase now))
      then (inr later) = inr (subst (λ f. binds_ahead f ds ≡ true) steps later)

      go : IsAhead e (d ∷ ds) → IsAhead next ds
      go (inl closed) =
          inl (with-both next.phase (stays 0 (closed-with 0 e.phase closed)) (stays 1 (closed-with 1 e.phase closed)))
      go (inr b) =
          then (now-or-later e d ds b)

  ahead-only : (e : Endpoint M.protocol) (d : DeedOf M) (ds : List (DeedOf M)) (next : Endpoint M.protocol)
      → endpoint_after M.protocol rows (happening_at M d) (Some e) ≡ Some next → IsAhead e (d ∷ ds) → e.phase ≡ Unbound
      → (v : ℕ) → next.phase ≡ Bound v → v ≡ u
  ahead-only e d ds next steps ahead free v bound = go ahead
    where
      then : (is_users M.protocol u (Some e) ≡ true)
          ⊎ (binds_ahead (endpoint_after M.protocol rows (happening_at M d) (Some e)) ds ≡ true) → v ≡ u
      then (inl now) = absurd (false≢true (sym (ap (is_bound_to u) free) ∙ now))
      then (inr later) =
          stays-only v next ds (subst (StaysWith v) (sym bound) refl) (subst (λ f. binds_ahead f ds ≡ true) steps later)

      go : IsAhead e (d ∷ ds) → v ≡ u
      go (inl closed) = absurd (false≢true (sym (ap is_closed free) ∙ closed))
      go (inr b) =
          then (now-or-later e d ds b)

  -- all of it
  all_fit-alone : (e : Endpoint M.protocol) (ds : List (DeedOf M)) (after : Endpoint M.protocol) (said : List ℕ) → IsAhead e ds
      → AllFit M rows u e ds after said → AllFit M (row ∷ []) 1 (alone e) ds (alone after) said
  all_fit-alone e [] after said ahead h = (ap alone h.0, h.1)
  all_fit-alone e (d ∷ ds) after said ahead (next, first, rest, fits, later, whole) = (
    alone next,
    first,
    rest,
    fit-alone e d next first (ahead-only e d ds next fits.steps ahead) fits,
    all_fit-alone next ds after rest (ahead-next e d ds next fits.steps ahead) later,
    whole,
  )

  -- by its own steps
  pub is-ahead : (c : ℕ) (e : Endpoint M.protocol) (ds : List (DeedOf M))
      → binds_from M.protocol rows u c (Some e) (steps_at M c ds) ≡ true → IsAhead e ds
  is-ahead c e ds binds = inr (sym (binds_ahead-is c (Some e) ds) ∙ binds)

  -- only who is bound calls a cache, and that of its user
  login-calls : (r : M.protocol.Reader) (granted denied : List ℕ) (o : Option ℕ) (v : ℕ) (command : M.Command)
      → (login_turn M.protocol r granted denied o).want ≡ Call v command → ⊥
  login-calls r granted denied None v command e = cc
  login-calls r granted denied (Some w) v command e = cc

  unbound-calls : (r : M.protocol.Reader) (a : Asks) (v : ℕ) (command : M.Command)
      → (unbound_turn M.protocol rows r a).want ≡ Call v command → ⊥
  unbound-calls r Idle v command e = cc
  unbound-calls r (Tell text) v command e = cc
  unbound-calls r (Login text granted denied) v command e =
      login-calls r granted denied (login M.protocol rows text) v command e
  unbound-calls r (Leave text) v command e = cc

  bound-calls : (w : ℕ) (r : M.protocol.Reader) (ws : Wants M.Command) (v : ℕ) (command : M.Command)
      → (bound_turn M.protocol w r ws).want ≡ Call v command → w ≡ v
  bound-calls w r Rest v command e = absurd cc
  bound-calls w r (Reply text) v command e = absurd cc
  bound-calls w r (Run c) v command e = cc
  bound-calls w r (Quit text) v command e = absurd cc

  call-bound : (p : Phase) (r : M.protocol.Reader) (v : ℕ) (command : M.Command)
      → (turn_at M.protocol rows r p).want ≡ Call v command → p ≡ Bound v
  call-bound Unbound r v command e = absurd (unbound-calls (M.protocol.unbound r).1 (M.protocol.unbound r).0 v command e)
  call-bound (Bound w) r v command e =
      ap Bound (bound-calls w (M.protocol.bound r).1 (M.protocol.bound r).0 v command e)
  call-bound Closed r v command e = absurd cc

  pub caller-is : (e : Endpoint M.protocol) (ds : List (DeedOf M)) (v : ℕ) (command : M.Command) → IsAhead e ds
      → (turn M.protocol rows e).want ≡ Call v command → v ≡ u
  caller-is e ds v command ahead wants = go ahead
    where
      bound : e.phase ≡ Bound v
      bound = call-bound e.phase e.reader v command wants

      go : IsAhead e ds → v ≡ u
      go (inl closed) = absurd (false≢true (sym (ap is_closed bound) ∙ closed))
      go (inr binds) = stays-only v e ds (subst (StaysWith v) (sym bound) refl) binds

  pub fits-alone : (c : ℕ) (e : Endpoint M.protocol) (ds : List (DeedOf M)) (after : Endpoint M.protocol) (said : List ℕ)
      → binds_from M.protocol rows u c (Some e) (steps_at M c ds) ≡ true → AllFit M rows u e ds after said
      → AllFit M (row ∷ []) 1 (alone e) ds (alone after) said
  fits-alone c e ds after said binds h = all_fit-alone e ds after said (is-ahead c e ds binds) h
