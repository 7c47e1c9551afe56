-- Dropping the last of main, and admitting candidates, one at a time.
use Rattle.std.specs.Prelude.{reverse, nat_lt, sum_by, ◌&&◌, ◌^◌, ◌⊎◌}
use Rattle.std.specs.List.{list_all}
use Rattle.std.proofs.Common.{◌≡◌, ℕ, zero, suc, ◌+◌, ◌-◌, ◌<◌, ◌≤◌, Bool, true, false, cond, List, [], ◌∷◌, ◌++◌, length}
use Rattle.std.proofs.Common.{take, inl, inr, refl, sym, ◌∙◌, ap, subst, length-append, arith}
use mathlib.Core.List.{reverse_aux}
use Rattle.std.proofs.lemmas.List.Sums.{sum_by-cons, sum_by_push}
use Rattle.tc_stats.specs.UserCounters.{more}
use Rattle.tc_model.specs.Areas.{Areas, Limits, Settled, fitting, beyond, shortest, demoted, trimmed, admitted, all_admitted}
use Rattle.tc_model.specs.Areas.{and_then, narrowed, without_last, from_tail, main_weight, settle, total}
use Rattle.tc_model.proofs.Last.{fitting_all, fitting_last, beyond_last, shortest_more}
use Rattle.tc_model.proofs.Steps.{areas_by, beyond_none, none_shortest, without_none, Popped, popped_probation, popped_protected}
use Rattle.tc_model.proofs.Totals.{total-demoted, total-without_last, total-admitted}
use Rattle.tc_model.proofs.Within.{sum-reverse}
use Rattle.tc_plain.specs.declared.shared.entry.Entry.{Entry}
use Rattle.tc_plain.specs.declared.reference.areas.Areas.{Areas as AreaLists}
use Rattle.tc_plain.specs.Entries.{weight}
use Rattle.tc_sketch.specs.Sketch.{Sketch}
use Rattle.tc_plain.specs.AreaLists.{areas_of, HasRoom, IsPopped, frequency_in}

more-none : (v : ℕ) → v < 2 ^ 64 → more v 0 ≡ v
more-none v h = omega arith

more-more : (v m n : ℕ) → more (more v m) n ≡ more v (m + n)
more-more v m n = omega arith

reverse-push : {A : Type 0} (xs ys : List A) (x : A) → reverse_aux (xs ++ x ∷ []) ys ≡ x ∷ reverse_aux xs ys
reverse-push [] ys x = refl
reverse-push (z ∷ xs) ys x = reverse-push xs (z ∷ ys) x

-- the shortest front of two lists
pub shortest-append : {A : Type 0} (weigh : A → ℕ) (need : ℕ) (xs ys : List A)
    → shortest weigh need (xs ++ ys) ≡ shortest weigh need xs ++ shortest weigh (need - sum_by weigh xs) ys
shortest-append weigh need [] ys = let all : need ≡ need - zero = omega arith in ap (λ n. shortest weigh n ys) all
shortest-append weigh zero (x ∷ xs) ys =
    let none : zero - sum_by weigh (x ∷ xs) ≡ zero = omega arith in
    sym (ap (λ n. shortest weigh n ys) none ∙ none_shortest weigh ys)
shortest-append weigh (suc n) (x ∷ xs) ys =
    let less : suc n - weigh x - sum_by weigh xs ≡ suc n - sum_by weigh (x ∷ xs) = omega (arith, sum_by-cons weigh x xs) in
    shortest_more weigh (suc n) x (xs ++ ys) (omega arith)
    ∙ ap (λ t. x ∷ t)
    (shortest-append weigh (suc n - weigh x) xs ys ∙ ap (λ k. shortest weigh (suc n - weigh x) xs ++ shortest weigh k ys) less)
    ∙ ap (λ t. t ++ shortest weigh (suc n - sum_by weigh (x ∷ xs)) ys) (sym (shortest_more weigh (suc n) x xs (omega arith)))

pub list_all-append : {A : Type 0} (p : A → Bool) (xs ys : List A) → list_all p (xs ++ ys) ≡ (list_all p xs && list_all p ys)
list_all-append p [] ys = refl
list_all-append {A} p (x ∷ xs) ys = go (p x) (list_all-append p xs ys)
  where
    go : (b : Bool) → list_all p (xs ++ ys) ≡ (list_all p xs && list_all p ys)
        → (b && list_all p (xs ++ ys)) ≡ (b && list_all p xs && list_all p ys)
    go true h = h
    go false h = refl

-- main's tail by its two lists
pub outranked_both : (p : Entry → Bool) (need : ℕ) (a : Areas Entry)
    → (list_all p (shortest weight need (reverse a.probation))
    && list_all p (shortest weight (need - sum_by weight a.probation) (reverse a.protected)))
    ≡ list_all p (shortest weight need (from_tail a))
outranked_both p need a =
    sym (ap (list_all p) (shortest-append weight need (reverse a.probation) (reverse a.protected))
    ∙ list_all-append p (shortest weight need (reverse a.probation)) _
    ∙ ap
    (λ n. list_all p (shortest weight need (reverse a.probation))
    && list_all p (shortest weight (need - n) (reverse a.protected)))
    (sum-reverse weight a.probation))

-- how the last of probation compare, and then those of protected
module _ (s : Sketch) (level need rest : ℕ) (xs ys : List Entry) (a : Areas Entry) (c : Entry) (at : level ≡ frequency_in s c)
    (first : xs ≡ a.probation) where
  abbrev IsBelow : ℕ → Entry → Bool
  IsBelow most e = nat_lt (frequency_in s e) most

  of_all : (b : Bool) → b ≡ list_all (IsBelow level) (shortest weight need (reverse xs))
      → (b && list_all (IsBelow level) (shortest weight (need - sum_by weight a.probation) (reverse a.protected)))
      ≡ list_all (IsBelow (frequency_in s c)) (shortest weight need (from_tail a))
  of_all b h =
      ap (λ t. t && list_all (IsBelow level) (shortest weight (need - sum_by weight a.probation) (reverse a.protected)))
      (h ∙ ap (λ l. list_all (IsBelow level) (shortest weight need (reverse l))) first)
      ∙ outranked_both (IsBelow level) need a ∙ ap (λ m. list_all (IsBelow m) (shortest weight need (from_tail a))) at

  pub outranks_second : (r : Bool) → rest ≡ need - sum_by weight a.probation → ys ≡ a.protected
      → true ≡ list_all (IsBelow level) (shortest weight need (reverse xs))
      → r ≡ list_all (IsBelow level) (shortest weight rest (reverse ys))
      → r ≡ list_all (IsBelow (frequency_in s c)) (shortest weight need (from_tail a))
  outranks_second r left second h g =
      g ∙ ap (λ n. list_all (IsBelow level) (shortest weight n (reverse ys))) left
      ∙ ap (λ l. list_all (IsBelow level) (shortest weight (need - sum_by weight a.probation) (reverse l))) second ∙ of_all true h

  pub outranks_first : (r : Bool) → r ≡ false → r ≡ list_all (IsBelow level) (shortest weight need (reverse xs))
      → r ≡ list_all (IsBelow (frequency_in s c)) (shortest weight need (from_tail a))
  outranks_first r no_more h = no_more ∙ of_all false (sym no_more ∙ h)

-- the search has come to the list's beginning, or needs no more
pub outranked_ends : (p : Entry → Bool) (need left : ℕ) (items : List Entry) → ((left ≡ 0) ⊎ (need ≡ 0))
    → true ≡ list_all p (shortest weight need (reverse (take left items)))
outranked_ends p need left items (inl z) =
    sym (ap (λ n. list_all p (shortest weight need (reverse (take n items)))) z ∙ nothing items)
  where
    nothing : (xs : List Entry) → list_all p (shortest weight need (reverse (take 0 xs))) ≡ true
    nothing [] = refl
    nothing (x ∷ xs) = refl
outranked_ends p need left items (inr z) =
    sym (ap (λ n. list_all p (shortest weight n (reverse (take left items)))) z
    ∙ ap (list_all p) (none_shortest weight (reverse (take left items))))

-- the last of main, as the laws of settle see it
same_areas : (a : Areas Entry) (w p q : List Entry) → a.window ≡ w → a.probation ≡ p → a.protected ≡ q → a ≡ areas_by w p q
same_areas a w p q e f g =
    ap (λ t. areas_by t a.probation a.protected) e ∙ ap (λ t. areas_by w t a.protected) f ∙ ap (λ t. areas_by w p t) g

pub popped_is : (last : Entry) (a b : Areas Entry) → IsPopped last a b → Popped weight a last b
popped_is last a b h = go h.of_main
  where
    go : ((a.probation ≡ b.probation ++ last ∷ []) × (b.protected ≡ a.protected))
        ⊎ ((a.probation ≡ []) × (b.probation ≡ []) × (a.protected ≡ b.protected ++ last ∷ []))
        → Popped weight a last b
    go (inl r) =
        let p : Popped weight (areas_by b.window (b.probation ++ last ∷ []) b.protected) last b =
        popped_probation weight b.window b.probation b.protected last in
        subst (λ x. Popped weight x last b)
        (sym (same_areas a b.window (b.probation ++ last ∷ []) b.protected (sym h.same_window) r.0 (sym r.1))) p
    go (inr r) =
        let p : Popped weight (areas_by b.window [] (b.protected ++ last ∷ [])) last (areas_by b.window [] b.protected) =
        popped_protected weight b.window b.protected last in
        subst (λ x. Popped weight x last b)
        (sym (same_areas a b.window [] (b.protected ++ last ∷ []) (sym h.same_window) r.0 r.2))
        (subst (λ x. Popped weight (areas_by b.window [] (b.protected ++ last ∷ [])) last x)
        (sym (same_areas b b.window [] b.protected refl r.1 refl)) p)

-- what is dropped from here is what is left to drop
pub record IsDropping (need0 v0 : ℕ) (a : AreaLists) (need v : ℕ) (b : AreaLists) : Type 0 where
  pub areas : without_last (length (shortest weight need (from_tail (areas_of b)))) (areas_of b)
      ≡ without_last (length (shortest weight need0 (from_tail (areas_of a)))) (areas_of a)
  pub counted : more v (length (shortest weight need (from_tail (areas_of b))))
      ≡ more v0 (length (shortest weight need0 (from_tail (areas_of a))))
  pub room : (spare : ℕ) → HasRoom spare a → HasRoom spare b
  pub fits : v < 2 ^ 64

pub dropping_moves : (need0 v0 need v need' v' : ℕ) (a b c : AreaLists) (last : Entry) → IsDropping need0 v0 a need v b → 0 < need
    → IsPopped last (areas_of b) (areas_of c) → need' ≡ need - weight last → v' ≡ more v 1
    → ((spare : ℕ) → HasRoom spare b → HasRoom spare c) → IsDropping need0 v0 a need' v' c
dropping_moves need0 v0 need v need' v' a b c last h pos pop less one room =
    let p = popped_is last (areas_of b) (areas_of c) pop in
    let left : List Entry = shortest weight need' (from_tail (areas_of c)) in
    let gone : shortest weight need (from_tail (areas_of b)) ≡ last ∷ left =
    ap (shortest weight need) p.tail ∙ shortest_more weight need last (from_tail (areas_of c)) pos
    ∙ ap (λ n. last ∷ shortest weight n (from_tail (areas_of c))) (sym less) in
    record {
      areas = sym (p.last (length left)) ∙ sym (ap (λ xs. without_last (length xs) (areas_of b)) gone) ∙ h.areas;
      counted = counted_once v v' (length left) one ∙ sym (ap (λ xs. more v (length xs)) gone) ∙ h.counted;
      room = λ spare r. room spare (h.room spare r);
      fits = still_fits v v' one;
    }
  where
    still_fits : (v v' : ℕ) → v' ≡ more v 1 → v' < 2 ^ 64
    still_fits v v' e = omega (arith, e)

    counted_once : (v v' n : ℕ) → v' ≡ more v 1 → more v' n ≡ more v (suc n)
    counted_once v v' n e = omega (arith, e)

nothing_left : (need : ℕ) (a : Areas Entry) → ((need ≡ 0) ⊎ (from_tail a ≡ [])) → shortest weight need (from_tail a) ≡ []
nothing_left need a (inl z) = ap (λ n. shortest weight n (from_tail a)) z ∙ none_shortest weight (from_tail a)
nothing_left need a (inr z) = ap (shortest weight need) z

pub dropping_ends : (need0 v0 need v : ℕ) (a b : AreaLists) (c : Areas Entry) → IsDropping need0 v0 a need v b → c ≡ areas_of b
    → ((need ≡ 0) ⊎ (from_tail (areas_of b) ≡ []))
    → (c ≡ without_last (length (shortest weight need0 (from_tail (areas_of a)))) (areas_of a))
    × (v ≡ more v0 (length (shortest weight need0 (from_tail (areas_of a)))))
dropping_ends need0 v0 need v a b c h same z =
    let none = nothing_left need (areas_of b) z in (
      same ∙ sym (ap (λ xs. without_last (length xs) (areas_of b)) none ∙ without_none (areas_of b)) ∙ h.areas,
      sym (ap (λ (xs : List Entry). more v (length xs)) none ∙ more-none v h.fits) ∙ h.counted,
    )

-- the candidates of these areas, admitted
abbrev pub admitted_rest : (Entry → ℕ) → Limits → Areas Entry → Settled Entry
admitted_rest freq limits a =
    all_admitted weight freq limits (narrowed (fitting weight limits.window a.window) a)
    (reverse (beyond weight limits.window a.window))

-- what is admitted from here is what is left to admit
pub record IsAdmitting (freq : Entry → ℕ) (limits : Limits) (v0 : ℕ) (a : Areas Entry) (v : ℕ) (b : AreaLists) : Type 0 where
  pub areas : (admitted_rest freq limits (areas_of b)).areas ≡ (settle weight freq limits a).areas
  pub counted : more v (length (admitted_rest freq limits (areas_of b)).dropped)
      ≡ more v0 (length (settle weight freq limits a).dropped)
  pub light : total weight (areas_of b) ≤ total weight a
  pub room : HasRoom 0 b
  pub fits : v < 2 ^ 64

pub admitting_starts : (freq : Entry → ℕ) (limits : Limits) (v0 v need : ℕ) (a d : Areas Entry) (b : AreaLists)
    → d ≡ demoted weight limits a → need ≡ main_weight weight d - limits.main
    → areas_of b ≡ without_last (length (shortest weight need (from_tail d))) d
    → v ≡ more v0 (length (shortest weight need (from_tail d))) → HasRoom 0 b → IsAdmitting freq limits v0 a v b
admitting_starts freq limits v0 v need a d b same over e n room =
    let t : Settled Entry = trimmed weight limits (demoted weight limits a) in
    let gone : shortest weight need (from_tail d) ≡ t.dropped =
    ap (λ k. shortest weight k (from_tail d)) over
    ∙ ap (λ x. shortest weight (main_weight weight x - limits.main) (from_tail x)) same in
    let first : areas_of b ≡ t.areas =
    e ∙ ap (λ xs. without_last (length xs) d) gone ∙ ap (without_last (length t.dropped)) same in
    let some : v ≡ more v0 (length t.dropped) = n ∙ ap (λ (xs : List Entry). more v0 (length xs)) gone in
    let rest : List Entry = (admitted_rest freq limits t.areas).dropped in
    record {
      areas = ap (λ x. (admitted_rest freq limits x).areas) first;
      counted =
          ap (λ x. more v (length (admitted_rest freq limits x).dropped)) first ∙ ap (λ m. more m (length rest)) some
          ∙ more-more v0 (length t.dropped) (length rest) ∙ ap (more v0) (sym (length-append t.dropped rest));
      light =
          let total_b : total weight (areas_of b) ≡ total weight t.areas = ap (total weight) first in
          omega (
            arith,
            total_b,
            total-without_last weight (length t.dropped) (demoted weight limits a),
            total-demoted weight weight limits a,
          );
      room = room;
      fits = small v0 v _ n;
    }
  where
    small : (v0 v n : ℕ) → v ≡ more v0 n → v < 2 ^ 64
    small v0 v n e = omega (arith, e)

-- the window's last is a candidate, and then the others are
rest_first : (freq : Entry → ℕ) (limits : Limits) (w p q : List Entry) (c : Entry) → limits.window < sum_by weight (w ++ c ∷ [])
    → let one = admitted freq c (areas_by w p q)
    (shortest weight (main_weight weight (areas_by w p q) + weight c - limits.main) (from_tail (areas_by w p q))) in
    admitted_rest freq limits (areas_by (w ++ c ∷ []) p q) ≡ and_then one.dropped (admitted_rest freq limits one.areas)
rest_first freq limits w p q c over =
    let window : List Entry = fitting weight limits.window w in
    let later : List Entry = reverse (beyond weight limits.window w) in
    ap (λ t. all_admitted weight freq limits (areas_by t p q) (reverse (beyond weight limits.window (w ++ c ∷ []))))
    (fitting_last weight limits.window w c over)
    ∙ ap (λ t. all_admitted weight freq limits (areas_by window p q) (reverse t)) (beyond_last weight limits.window w c over)
    ∙ ap (λ t. all_admitted weight freq limits (areas_by window p q) t) (reverse-push (beyond weight limits.window w) [] c)
    ∙ go (list_all (λ v. nat_lt (freq v) (freq c))
    (shortest weight (main_weight weight (areas_by w p q) + weight c - limits.main) (from_tail (areas_by w p q))))
  where
    go : (b : Bool)
        → (let one = cond b
        (let s : Settled Entry = record {
          areas = record {
            window = fitting weight limits.window w;
            probation = c
                ∷ take (length p
                - length (shortest weight (main_weight weight (areas_by w p q) + weight c - limits.main)
                (from_tail (areas_by w p q)))) p;
            protected = take (length q
                - (length (shortest weight (main_weight weight (areas_by w p q) + weight c - limits.main)
                (from_tail (areas_by w p q)))
                - length p)) q;
          };
          dropped = shortest weight (main_weight weight (areas_by w p q) + weight c - limits.main) (from_tail (areas_by w p q));
        } in s)
        (record { areas = areas_by (fitting weight limits.window w) p q; dropped = c ∷ [] }) in
        and_then one.dropped (all_admitted weight freq limits one.areas (reverse (beyond weight limits.window w))))
        ≡ (let two = cond b
        (let s : Settled Entry = record {
          areas = record {
            window = w;
            probation = c
                ∷ take (length p
                - length (shortest weight (main_weight weight (areas_by w p q) + weight c - limits.main)
                (from_tail (areas_by w p q)))) p;
            protected = take (length q
                - (length (shortest weight (main_weight weight (areas_by w p q) + weight c - limits.main)
                (from_tail (areas_by w p q)))
                - length p)) q;
          };
          dropped = shortest weight (main_weight weight (areas_by w p q) + weight c - limits.main) (from_tail (areas_by w p q));
        } in s)
        (record { areas = areas_by w p q; dropped = c ∷ [] }) in
        and_then two.dropped (admitted_rest freq limits two.areas))
    go true = refl
    go false = refl

pub admitting_moves : (freq : Entry → ℕ) (limits : Limits) (v0 v v' : ℕ) (a : Areas Entry) (b c : AreaLists) (w : List Entry)
    (x : Entry)
    → IsAdmitting freq limits v0 a v b → b.window.items ≡ w ++ x ∷ [] → limits.window < sum_by weight b.window.items
    → (let one = admitted freq x (areas_by w b.probation.items b.protected.items)
    (shortest weight (main_weight weight (areas_of b) + weight x - limits.main) (from_tail (areas_of b))) in
    (areas_of c ≡ one.areas) × (v' ≡ more v (length one.dropped)))
    → HasRoom 0 c → IsAdmitting freq limits v0 a v' c
admitting_moves freq limits v0 v v' a b c w x h last over done room =
    let p : List Entry = b.probation.items in
    let q : List Entry = b.protected.items in
    let vs : List Entry = shortest weight (main_weight weight (areas_of b) + weight x - limits.main) (from_tail (areas_of b)) in
    let one : Settled Entry = admitted freq x (areas_by w p q) vs in
    let far : limits.window < sum_by weight (w ++ x ∷ []) = subst (λ t. limits.window < sum_by weight t) last over in
    let first : admitted_rest freq limits (areas_of b) ≡ and_then one.dropped (admitted_rest freq limits one.areas) =
    ap (λ t. admitted_rest freq limits (areas_by t p q)) last ∙ rest_first freq limits w p q x far in
    let rest : List Entry = (admitted_rest freq limits one.areas).dropped in
    record {
      areas = ap (λ y. (admitted_rest freq limits y).areas) done.0 ∙ sym (ap (λ (s : Settled Entry). s.areas) first) ∙ h.areas;
      counted =
          ap (λ y. more v' (length (admitted_rest freq limits y).dropped)) done.0 ∙ ap (λ m. more m (length rest)) done.1
          ∙ more-more v (length one.dropped) (length rest) ∙ ap (more v) (sym (length-append one.dropped rest))
          ∙ sym (ap (λ (s : Settled Entry). more v (length s.dropped)) first) ∙ h.counted;
      light =
          let after : total weight (areas_of c) ≡ total weight one.areas = ap (total weight) done.0 in
          let window : sum_by weight b.window.items ≡ sum_by weight (w ++ x ∷ []) = ap (sum_by weight) last in
          omega (arith, after, total-admitted weight freq x (areas_by w p q) vs, window, sum_by_push weight w x, h.light);
      room = room;
      fits = small v v' _ done.1;
    }
  where
    small : (v v' n : ℕ) → v' ≡ more v n → v' < 2 ^ 64
    small v v' n e = omega (arith, e)

pub admitting_ends : (freq : Entry → ℕ) (limits : Limits) (v0 v : ℕ) (a c : Areas Entry) (b : AreaLists)
    → IsAdmitting freq limits v0 a v b → c ≡ areas_of b → sum_by weight b.window.items ≤ limits.window
    → (c ≡ (settle weight freq limits a).areas) × (v ≡ more v0 (length (settle weight freq limits a).dropped))
admitting_ends freq limits v0 v a c b h same fits =
    let none : Settled Entry = record { areas = areas_of b; dropped = [] } in
    let rest : admitted_rest freq limits (areas_of b) ≡ none =
    ap (λ t. all_admitted weight freq limits (narrowed t (areas_of b)) (reverse (beyond weight limits.window b.window.items)))
    (fitting_all weight limits.window b.window.items fits)
    ∙ ap (λ t. all_admitted weight freq limits (areas_of b) (reverse t))
    (beyond_none weight limits.window b.window.items fits) in (
      same ∙ sym (ap (λ (s : Settled Entry). s.areas) rest) ∙ h.areas,
      sym (ap (λ (s : Settled Entry). more v (length s.dropped)) rest ∙ more-none v h.fits) ∙ h.counted,
    )
