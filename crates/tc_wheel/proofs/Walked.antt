-- A walk along one list: what is behind was not due at a moment, what is ahead may be.
use Rattle.std.specs.Prelude.{Option, Some, None, ◌==◌, ◌%◌, ◌-◌, slice_index, nat_le, ◌||◌, map}
use Rattle.std.proofs.Common.{◌≡◌, ◌⊎◌, inl, inr, ℕ, suc, ◌+◌, ◌<◌, ◌≤◌, Bool, true, false, List, [], ◌∷◌, ◌++◌, length, refl}
use Rattle.std.proofs.Common.{sym, ◌∙◌, ap, subst, arith, append_assoc}
use Rattle.std.proofs.lemmas.Bool.{eq-eqb, eqb-true, le-leb, lt-leb, leb-true, cases_lt}
use Rattle.tc_model.specs.Ring.{Linked, HasPlace, AreDistinct}
use Rattle.tc_model.specs.Chains.{fronted, without_node, is_among}
use Rattle.tc_model.proofs.Rings.{linked_split, IsSplit, split}
use Rattle.tc_model.proofs.Chained.{among-append, without-found, append_nil, mark_place}
use Rattle.tc_wheel.specs.Dues.{due_at, is_due}
use Rattle.tc_ring.specs.Links.{linked_behind, unlinked}
use Rattle.tc_wheel.specs.Links.{Links, freed}
use Rattle.tc_wheel.specs.Kept.{list_at, in_bucket, stands_in, Awaits, AreKept, IsSwept, IsListed, IsNext}
use Rattle.tc_wheel.proofs.Listed.{fronted_there, list_at-without, list_short, list_distinct, bucket_linked, last_linked}
use Rattle.tc_wheel.proofs.Listed.{place_at}
use Rattle.tc_wheel.proofs.Held.{kept_moved, kept_removed, length-cut, behind_marks, free_at}

-- the first of these, or what comes behind them
pub first_or : ℕ → List ℕ → ℕ
first_or end [] = end
first_or end (x ∷ xs) = x

-- where a walk stands, of which so many steps are done
pub record Along (k moment left by bucket end slots step : ℕ) (l : Links) (at : ℕ) : Type 0 where
  pub lists : List (List ℕ)
  pub kept : AreKept k moment left l lists
  pub passed : List ℕ
  pub ahead : List ℕ
  pub is : list_at bucket lists ≡ passed ++ ahead
  pub stale : (n : ℕ) → is_among n passed ≡ true → is_due by (due_at l.notes n) ≡ false
  pub at_is : at ≡ first_or end ahead
  pub linked : Linked l.next l.prev bucket (list_at bucket lists) end
  pub short : length ahead + step ≤ slots

linked_first : (next prev : List ℕ) (a b : ℕ) (xs : List ℕ) → Linked next prev a xs b → slice_index next a ≡ first_or b xs
unfolding first_or
linked_first next prev a b [] h = h.0
linked_first next prev a b (x ∷ xs) h = h.0

starts : (k moment left by bucket end slots at : ℕ) (l : Links) (lists : List (List ℕ)) → bucket < suc k
    → slots + suc k ≡ length l.next → at ≡ slice_index l.next bucket → AreKept k moment left l lists
    → Linked l.next l.prev bucket (list_at bucket lists) end → Along k moment left by bucket end slots 0 l at
starts k moment left by bucket end slots at l lists small long e a linked = record {
  lists = lists;
  kept = a;
  passed = [];
  ahead = list_at bucket lists;
  is = refl;
  stale = λ n h. absurd (cc);
  at_is = e ∙ linked_first l.next l.prev bucket end (list_at bucket lists) linked;
  linked = linked;
  short = omega (arith, list_short l.next l.prev bucket lists (omega (arith, a.count)) a.ring, a.count);
}

pub starts_bucket : (k moment left by bucket slots at : ℕ) (l : Links) → bucket < k → slots + suc k ≡ length l.next
    → at ≡ slice_index l.next bucket → IsSwept k moment left l → Along k moment left by bucket (suc bucket) slots 0 l at
starts_bucket k moment left by bucket slots at l small long e s =
    starts k moment left by bucket (suc bucket) slots at l s.lists (omega arith) long e s.kept
    (bucket_linked l.next l.prev bucket s.lists (omega (arith, s.kept.count)) s.kept.ring)

pub starts_last : (k moment left by slots at : ℕ) (l : Links) → slots + suc k ≡ length l.next → at ≡ slice_index l.next k
    → IsSwept k moment left l → Along k moment left by k 0 slots 0 l at
starts_last k moment left by slots at l long e s =
    starts k moment left by k 0 slots at l s.lists (omega arith) long e s.kept
    (last_linked l.next l.prev k s.lists (sym s.kept.count) s.kept.ring)

-- the node ahead
pub record Ahead (k moment left by bucket end slots step : ℕ) (l : Links) (at : ℕ) : Type 0 where
  pub along : Along k moment left by bucket end slots step l at
  pub rest : List ℕ
  pub is : along.ahead ≡ at ∷ rest

ahead_of : (k moment left by bucket end slots step : ℕ) (l : Links) (at : ℕ) → end ≤ k → k < at
    → Along k moment left by bucket end slots step l at → Ahead k moment left by bucket end slots step l at
unfolding first_or
ahead_of k moment left by bucket end slots step l at small big a = go a.ahead refl
  where
    go : (xs : List ℕ) → a.ahead ≡ xs → Ahead k moment left by bucket end slots step l at
    go [] e = absurd (let same : at ≡ end = a.at_is ∙ ap (λ xs. first_or end xs) e in omega arith)
    go (x ∷ xs) e = record { along = a; rest = xs; is = e ∙ ap (λ y. y ∷ xs) (sym (a.at_is ∙ ap (λ ys. first_or end ys) e)) }

-- a node ahead is a member of its list
member : (xs us vs : List ℕ) (x : ℕ) → xs ≡ us ++ x ∷ vs → is_among x xs ≡ true
member xs us vs x e =
    ap (λ ys. is_among x ys) e ∙ among-append x us (x ∷ vs) ∙ ap (λ b. is_among x us || (b || is_among x vs)) (eq-eqb x x refl)
    ∙ or_true (is_among x us)
  where
    or_true : (b : Bool) → (b || true) ≡ true
    or_true true = refl
    or_true false = refl

-- what is held at a member of a list
held_member : (k moment left : ℕ) (l : Links) (lists : List (List ℕ)) (i n : ℕ) → i < suc k → is_among n (list_at i lists) ≡ true
    → AreKept k moment left l lists → (due : ℕ) × (due_at l.notes n ≡ Some due)
held_member k moment left l lists i n small h a = go (due_at l.notes n) refl
  where
    go : (o : Option ℕ) → due_at l.notes n ≡ o → (due : ℕ) × (due_at l.notes n ≡ Some due)
    go None e = absurd (let f : true ≡ false = sym h ∙ free_at k moment left l lists n i a e small in cc)
    go (Some due) e = (due, e)

-- a node ahead has a place
pub ahead_place : (k moment left by bucket end slots step : ℕ) (l : Links) (at : ℕ) → 0 < k → bucket < suc k → end ≤ k → k < at
    → Along k moment left by bucket end slots step l at → HasPlace l.next l.prev at
ahead_place k moment left by bucket end slots step l at some low small big a =
    let h : Ahead k moment left by bucket end slots step l at =
    ahead_of k moment left by bucket end slots step l at small big a in
    let among : is_among at (list_at bucket h.along.lists) ≡ true =
    member (list_at bucket h.along.lists) h.along.passed h.rest at (h.along.is ∙ ap (λ xs. h.along.passed ++ xs) h.is) in
    place_at l.next l.prev at bucket h.along.lists (omega (arith, h.along.kept.count)) among h.along.kept.ring

-- nothing is ahead
empty_ahead : (k moment left by bucket end slots step : ℕ) (l : Links) (at : ℕ) → bucket < suc k → at ≤ k
    → Along k moment left by bucket end slots step l at → (a : Along k moment left by bucket end slots step l at) × (a.ahead ≡ [])
unfolding first_or
empty_ahead k moment left by bucket end slots step l at low small a = (a, go a.ahead refl)
  where
    go : (xs : List ℕ) → a.ahead ≡ xs → a.ahead ≡ []
    go [] e = e
    go (x ∷ xs) e =
        let own : at ≡ x = a.at_is ∙ ap (λ ys. first_or end ys) e in
        let among : is_among x (list_at bucket a.lists) ≡ true =
        member (list_at bucket a.lists) a.passed xs x (a.is ∙ ap (λ ys. a.passed ++ ys) e) in
        let held = held_member k moment left l a.lists bucket x low among a.kept in
        absurd (let big : k < x = behind_marks k moment left l a.lists x held.0 a.kept held.1 in omega arith)

-- a step over what is not due

next_ahead : (k moment left by bucket end slots step : ℕ) (l : Links) (at : ℕ)
    (h : Ahead k moment left by bucket end slots step l at)
    → slice_index l.next at ≡ first_or end h.rest
next_ahead k moment left by bucket end slots step l at h =
    let listed : list_at bucket h.along.lists ≡ h.along.passed ++ at ∷ h.rest =
    h.along.is ∙ ap (λ xs. h.along.passed ++ xs) h.is in
    let both = linked_split l.next l.prev bucket end at h.along.passed h.rest
    (subst (λ xs. Linked l.next l.prev bucket xs end) listed h.along.linked) in
    linked_first l.next l.prev at end h.rest both.1

stale_more : (by : ℕ) (dues : List (Option ℕ)) (passed : List ℕ) (at : ℕ) → is_due by (due_at dues at) ≡ false
    → ((n : ℕ) → is_among n passed ≡ true → is_due by (due_at dues n) ≡ false)
    → (n : ℕ) → is_among n (passed ++ at ∷ []) ≡ true → is_due by (due_at dues n) ≡ false
stale_more by dues passed at late h n e = go (is_among n passed) (at == n) refl refl (sym (among-append n passed (at ∷ [])) ∙ e)
  where
    go : (b c : Bool) → is_among n passed ≡ b → (at == n) ≡ c → (is_among n passed || ((at == n) || false)) ≡ true
        → is_due by (due_at dues n) ≡ false
    go true c p q f = h n p
    go false true p q f = ap (λ z. is_due by (due_at dues z)) (sym (eqb-true at n q)) ∙ late
    go false false p q f =
        absurd (let g : false ≡ true = sym (ap (λ b. b || ((at == n) || false)) p ∙ ap (λ b. b || false) q) ∙ f in cc)

along_over : (k moment left by bucket end slots step next : ℕ) (l : Links) (at : ℕ) → next ≡ slice_index l.next at
    → is_due by (due_at l.notes at) ≡ false → Ahead k moment left by bucket end slots step l at
    → Along k moment left by bucket end slots (step + 1) l next
along_over k moment left by bucket end slots step next l at e late h = record {
  lists = h.along.lists;
  kept = h.along.kept;
  passed = h.along.passed ++ at ∷ [];
  ahead = h.rest;
  is = h.along.is ∙ ap (λ xs. h.along.passed ++ xs) h.is ∙ sym (append_assoc h.along.passed (at ∷ []) h.rest);
  stale = stale_more by l.notes h.along.passed at late h.along.stale;
  at_is = e ∙ next_ahead k moment left by bucket end slots step l at h;
  linked = h.along.linked;
  short = omega (arith, h.along.short, ap (λ xs. length xs) h.is);
}

-- a step that moves what is due

due_of : (by : ℕ) (o : Option ℕ) → is_due by o ≡ true → (due : ℕ) × (o ≡ Some due) × (due ≤ by)
due_of by None e = absurd (cc)
due_of by (Some due) e = (due, refl, leb-true due by e)

along_moves : (k moment left bucket slots step next : ℕ) (l : Links) (at : ℕ) → 0 < k → bucket < k → next ≡ slice_index l.next at
    → is_due moment (due_at l.notes at) ≡ true → Ahead k moment left moment bucket (suc bucket) slots step l at
    → Along k moment left moment bucket (suc bucket) slots (step + 1) (linked_behind k at (unlinked at l)) next
along_moves k moment left bucket slots step next l at some low e early h =
    let d = due_of moment (due_at l.notes at) early in
    let lists : List (List ℕ) = h.along.lists in
    let listed : list_at bucket h.along.lists ≡ h.along.passed ++ at ∷ h.rest =
    h.along.is ∙ ap (λ xs. h.along.passed ++ xs) h.is in
    let apart : IsSplit h.along.passed at h.rest =
    split h.along.passed at h.rest
    (subst (λ xs. AreDistinct xs) listed (list_distinct l.next l.prev bucket h.along.lists h.along.kept.ring)) in
    let moved : AreKept k moment left (linked_behind k at (unlinked at l)) (fronted k at (map (without_node at) h.along.lists)) =
    kept_moved k moment left l h.along.lists at d.0 some d.1 d.2 h.along.kept in
    record {
      lists = fronted k at (map (without_node at) h.along.lists);
      kept = moved;
      passed = h.along.passed;
      ahead = h.rest;
      is =
          fronted_there bucket k at (map (without_node at) h.along.lists) (omega arith) ∙ list_at-without bucket at h.along.lists
          ∙ ap (λ xs. without_node at xs) listed ∙ without-found at h.along.passed h.rest apart.before apart.behind;
      stale = h.along.stale;
      at_is = e ∙ next_ahead k moment left moment bucket (suc bucket) slots step l at h;
      linked =
          bucket_linked (linked_behind k at (unlinked at l)).next (linked_behind k at (unlinked at l)).prev bucket
          (fronted k at (map (without_node at) h.along.lists)) (omega (arith, moved.count)) moved.ring;
      short = omega (arith, h.along.short, ap (λ xs. length xs) h.is);
    }

-- a bucket whose walk is done awaits nothing

passed_all : (bucket : ℕ) (lists : List (List ℕ)) (passed ahead : List ℕ) (n : ℕ) → list_at bucket lists ≡ passed ++ ahead
    → ahead ≡ [] → is_among n (list_at bucket lists) ≡ true → is_among n passed ≡ true
passed_all bucket lists passed ahead n e f h =
    sym (ap (λ xs. is_among n xs) (e ∙ ap (λ xs. passed ++ xs) f ∙ append_nil passed)) ∙ h

bucket_done : (k moment back left bucket slots step : ℕ) (l : Links) (at : ℕ)
    (a : Along k moment left moment bucket (suc bucket) slots step l at)
    → a.ahead ≡ [] → left ≡ back + 1 → bucket < k → bucket ≡ (moment - back) % k → IsSwept k moment back l
bucket_done k moment back left bucket slots step l at a none e low eb = record {
  lists = a.lists;
  kept = record {
    count = a.kept.count;
    ring = a.kept.ring;
    dues_long = a.kept.dues_long;
    marks = a.kept.marks;
    kept = a.kept.kept;
    late = a.kept.late;
    rest = λ n due out noted_is early. rest_one n due out noted_is early (a.kept.rest n due out noted_is early);
  };
}
  where
    rest_one : (n due : ℕ) → is_among n (list_at k a.lists) ≡ false → due_at l.notes n ≡ Some due → due ≤ moment
        → Awaits k moment left due → Awaits k moment back due
    rest_one n due out noted_is early w = go (cases_lt w.back back)
      where
        go : (w.back < back) ⊎ (back ≤ w.back) → Awaits k moment back due
        go (inl small) = record { back = w.back; within = small; same = w.same }
        go (inr big) =
            let last : w.back ≡ back = omega (arith, w.within) in
            let here : due % k ≡ bucket = w.same ∙ ap (λ b. (moment - b) % k) last ∙ sym eb in
            let among : is_among n (list_at bucket a.lists) ≡ true
            = a.kept.kept bucket n low ∙ ap (λ b. stands_in k bucket b (due_at l.notes n)) out
            ∙ ap (λ o. in_bucket k bucket o) noted_is ∙ eq-eqb (due % k) bucket here in
            let stale : is_due moment (due_at l.notes n) ≡ false =
            a.stale n (passed_all bucket a.lists a.passed a.ahead n a.is none among) in
            absurd (let f : false ≡ true = sym stale ∙ ap (λ o. is_due moment o) noted_is ∙ le-leb due moment early in cc)

-- nothing is due where the list of what is due was walked to its end
none_due : (k now by slots step : ℕ) (l : Links) (at : ℕ) (a : Along k now 0 by k 0 slots step l at) → a.ahead ≡ [] → by ≤ now
    → (n : ℕ) → is_due by (due_at l.notes n) ≡ false
none_due k now by slots step l at a none order n = go (due_at l.notes n) refl (is_among n (list_at k a.lists)) refl
  where
    go : (o : Option ℕ) → due_at l.notes n ≡ o → (b : Bool) → is_among n (list_at k a.lists) ≡ b
        → is_due by (due_at l.notes n) ≡ false
    go None e b f = ap (λ o. is_due by o) e
    go (Some due) e true f = a.stale n (passed_all k a.lists a.passed a.ahead n a.is none f)
    go (Some due) e false f = ap (λ o. is_due by o) e ∙ later (cases_lt now due)
      where
        later : (now < due) ⊎ (due ≤ now) → nat_le due by ≡ false
        later (inl h) = lt-leb due by (omega arith)
        later (inr h) =
            absurd (let w : Awaits k now 0 due = a.kept.rest n due f e h in let none : w.back < 0 = w.within in omega arith)

-- the walk of a bucket, by the steps of the code

pub record Walks (moment back slots step : ℕ) (was l : Links) (at : ℕ) : Type 0 where
  pub along : Along 4096 moment (back + 1) moment ((moment - back) % 4096) (suc ((moment - back) % 4096)) slots step l at
  pub dues : l.notes ≡ was.notes

pub walk_starts : (moment back second bucket at slots : ℕ) (l : Links) → second ≡ moment → bucket ≡ (second - back) % 4096
    → at ≡ slice_index l.next bucket → slots + 4097 ≡ length l.next → IsSwept 4096 moment (back + 1) l
    → Walks moment back slots 0 l l at
walk_starts moment back second bucket at slots l es eb ea long s =
    let b : ℕ = (moment - back) % 4096 in
    let low : b < 4096 = omega arith in
    let is : bucket ≡ b = eb ∙ ap (λ x. (x - back) % 4096) es in
    record {
      along = starts_bucket 4096 moment (back + 1) moment b slots at l low long (ea ∙ ap (λ i. slice_index l.next i) is) s;
      dues = refl;
    }

abbrev Steps : ℕ → ℕ → ℕ → ℕ → Links → ℕ → Type 0
Steps moment back slots step l at =
    Ahead 4096 moment (back + 1) moment ((moment - back) % 4096) (suc ((moment - back) % 4096)) slots step l at

steps_of : (moment back slots step : ℕ) (was l : Links) (at : ℕ) → 4097 ≤ at → Walks moment back slots step was l at
    → Steps moment back slots step l at
steps_of moment back slots step was l at big w =
    let low : (moment - back) % 4096 < 4096 = omega arith in
    ahead_of 4096 moment (back + 1) moment ((moment - back) % 4096) (suc ((moment - back) % 4096)) slots step l at (omega arith)
    (omega arith) w.along

pub walk_place : (moment back slots step : ℕ) (was l : Links) (at : ℕ) → 4097 ≤ at → Walks moment back slots step was l at
    → HasPlace l.next l.prev at
walk_place moment back slots step was l at big w =
    let low : (moment - back) % 4096 < 4096 = omega arith in
    ahead_place 4096 moment (back + 1) moment ((moment - back) % 4096) (suc ((moment - back) % 4096)) slots step l at
    (omega arith) (omega arith) (omega arith) (omega arith) w.along

-- where a node that was taken out is put in again
pub walk_put : (moment back slots step : ℕ) (was l m : Links) (at : ℕ) → 4097 ≤ at → is_due moment (due_at l.notes at) ≡ true
    → m ≡ unlinked at l → Walks moment back slots step was l at → HasPlace m.next m.prev 4096 × (at < length m.next)
walk_put moment back slots step was l m at big early e w =
    let h : Steps moment back slots step l at = steps_of moment back slots step was l at big w in
    let d = due_of moment (due_at l.notes at) early in
    let cut : AreKept 4096 moment (back + 1) (freed at (unlinked at l)) (map (without_node at) h.along.lists) =
    kept_removed 4096 moment (back + 1) l h.along.lists at d.0 (omega arith) d.1 h.along.kept in
    let place : HasPlace (unlinked at l).next (unlinked at l).prev 4096 =
    mark_place (unlinked at l).next (unlinked at l).prev 4096 (map (without_node at) h.along.lists)
    (omega (arith, cut.count)) cut.ring in
    let own : HasPlace l.next l.prev at = walk_place moment back slots step was l at big w in
    let within : at < length (unlinked at l).next = omega (arith, own.own, length-cut l.next l.prev at) in
    subst (λ (x : Links). HasPlace x.next x.prev 4096 × (at < length x.next)) (sym e) (place, within)

pub walk_over : (moment back slots step next : ℕ) (was l : Links) (at : ℕ) → 4097 ≤ at → next ≡ slice_index l.next at
    → is_due moment (due_at l.notes at) ≡ false → Walks moment back slots step was l at
    → Walks moment back slots (step + 1) was l next
walk_over moment back slots step next was l at big e late w = record {
  along =
      along_over 4096 moment (back + 1) moment ((moment - back) % 4096) (suc ((moment - back) % 4096)) slots step next l at e late
      (steps_of moment back slots step was l at big w);
  dues = w.dues;
}

pub walk_moves : (moment back slots step next : ℕ) (was l m n : Links) (at : ℕ) → 4097 ≤ at → next ≡ slice_index l.next at
    → is_due moment (due_at l.notes at) ≡ true → m ≡ unlinked at l → n ≡ linked_behind 4096 at m
    → Walks moment back slots step was l at
    → Walks moment back slots (step + 1) was n next
walk_moves moment back slots step next was l m n at big e early em en w =
    let is : n ≡ linked_behind 4096 at (unlinked at l) = en ∙ ap (λ (x : Links). linked_behind 4096 at x) em in
    let low : (moment - back) % 4096 < 4096 = omega arith in
    subst (λ (x : Links). Walks moment back slots (step + 1) was x next) (sym is) (record {
      along =
          along_moves 4096 moment (back + 1) ((moment - back) % 4096) slots step next l at (omega arith) low e early
          (steps_of moment back slots step was l at big w);
      dues = w.dues;
    })

pub walk_done : (moment back slots step : ℕ) (was l : Links) (at : ℕ) → at < 4097 → Walks moment back slots step was l at
    → IsSwept 4096 moment back l
walk_done moment back slots step was l at small w =
    let low : (moment - back) % 4096 < 4096 = omega arith in
    let a = empty_ahead 4096 moment (back + 1) moment ((moment - back) % 4096) (suc ((moment - back) % 4096)) slots step l at
    (omega arith) (omega arith) w.along in
    bucket_done 4096 moment back (back + 1) ((moment - back) % 4096) slots step l at a.0 a.1 refl low refl

no_length : (xs : List ℕ) → length xs ≡ 0 → xs ≡ []
no_length [] e = refl
no_length (x ∷ xs) e = absurd (omega arith)

pub walk_ends : (moment back slots step : ℕ) (was l : Links) (at : ℕ) → slots ≤ step → Walks moment back slots step was l at
    → IsSwept 4096 moment back l
walk_ends moment back slots step was l at all w =
    let low : (moment - back) % 4096 < 4096 = omega arith in
    bucket_done 4096 moment back (back + 1) ((moment - back) % 4096) slots step l at w.along
    (no_length w.along.ahead (omega (arith, w.along.short))) refl low refl

-- the walk of the list of what is due, by the steps of the code, whatever moment the nodes are kept for

pub record Seeks (by slots step : ℕ) (l : Links) (at : ℕ) : Type 0 where
  pub along : (now left : ℕ) → IsSwept 4096 now left l → Along 4096 now left by 4096 0 slots step l at

pub seek_starts : (by at slots : ℕ) (l : Links) → at ≡ slice_index l.next 4096 → slots + 4097 ≡ length l.next
    → Seeks by slots 0 l at
seek_starts by at slots l e long = record { along = λ now left s. starts_last 4096 now left by slots at l long e s }

pub seek_place : (now left by slots step : ℕ) (l : Links) (at : ℕ) → 4097 ≤ at → IsSwept 4096 now left l
    → Seeks by slots step l at → HasPlace l.next l.prev at
seek_place now left by slots step l at big s h =
    ahead_place 4096 now left by 4096 0 slots step l at (omega arith) (omega arith) (omega arith) (omega arith)
    (h.along now left s)

pub seek_over : (by slots step next : ℕ) (l : Links) (at : ℕ) → 4097 ≤ at → next ≡ slice_index l.next at
    → is_due by (due_at l.notes at) ≡ false → Seeks by slots step l at → Seeks by slots (step + 1) l next
seek_over by slots step next l at big e late h =
    record {
      along = λ now left s. along_over 4096 now left by 4096 0 slots step next l at e late
          (ahead_of 4096 now left by 4096 0 slots step l at (omega arith) (omega arith) (h.along now left s));
    }

pub seek_done : (by slots step : ℕ) (l : Links) (at : ℕ) → at < 4097 → Seeks by slots step l at → IsListed None by l
seek_done by slots step l at small h = λ now order s.
    let a = empty_ahead 4096 now 0 by 4096 0 slots step l at (omega arith) (omega arith) (h.along now 0 s) in
    none_due 4096 now by slots step l at a.0 a.1 order

pub seek_ends : (by slots step : ℕ) (l : Links) (at : ℕ) → slots ≤ step → Seeks by slots step l at → IsListed None by l
seek_ends by slots step l at all h = λ now order s.
    let a : Along 4096 now 0 by 4096 0 slots step l at = h.along now 0 s in
    none_due 4096 now by slots step l at a (no_length a.ahead (omega (arith, a.short))) order

pub mark_within : (k moment left : ℕ) (l : Links) (i : ℕ) → i < suc k → IsSwept k moment left l → i < length l.next
mark_within k moment left l i small s = (mark_place l.next l.prev i s.lists (omega (arith, s.kept.count)) s.kept.ring).own

-- all seconds are walked
pub listed_next : (now by left : ℕ) (l : Links) (r : Option ℕ) → left ≡ 0 → by ≤ now → IsSwept 4096 now left l → IsListed r by l
    → IsNext r by l
listed_next now by left l None e order s h = h now order (subst (λ n. IsSwept 4096 now n l) e s)
listed_next now by left l (Some n) e order s h = h
