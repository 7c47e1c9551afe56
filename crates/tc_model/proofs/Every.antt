-- What is true of every entry of some areas stays true when entries move and are dropped.
use Rattle.std.specs.Prelude.{nat_lt, filter, not, reverse, take, ◌-◌, All}
use Rattle.std.specs.List.{list_all}
use Rattle.std.proofs.Common.{◌≡◌, ℕ, zero, suc, Bool, true, false, cond, List, [], ◌∷◌, ◌++◌, length, refl}
use mathlib.Core.List.{reverse_aux}
use Rattle.std.proofs.lemmas.List.Elements.{All-nil, All-cons, All-head, All-tail}
use Rattle.tc_model.specs.Areas.{Areas, Limits, Settled, fitting, beyond, demoted, without_last, trimmed, victims, entered}
use Rattle.tc_model.specs.Areas.{admitted, all_admitted, narrowed, settle, is_in, without, raised, accessed}

abbrev pub Every : {A : Type 0} → (A → Type 0) → List A → Type 0
Every P [] = Unit {0}
Every P (x ∷ xs) = P x × Every P xs

pub every_of_all : {A : Type 0} (P : A → Type 0) (xs : List A) → All P xs → Every P xs
every_of_all P [] h = tt
every_of_all P (x ∷ xs) h = (All-head P x xs h, every_of_all P xs (All-tail P x xs h))

pub all_of_every : {A : Type 0} (P : A → Type 0) (xs : List A) → Every P xs → All P xs
all_of_every P [] h = All-nil P
all_of_every P (x ∷ xs) h = All-cons P x xs h.0 (all_of_every P xs h.1)

pub Every-append : {A : Type 0} (P : A → Type 0) (xs ys : List A) → Every P xs → Every P ys → Every P (xs ++ ys)
Every-append P [] ys h g = g
Every-append P (x ∷ xs) ys h g = (h.0, Every-append P xs ys h.1 g)

pub Every-filter : {A : Type 0} (P Q : A → Type 0) (p : A → Bool) → ((x : A) → p x ≡ true → P x → Q x) → (xs : List A)
    → Every P xs → Every Q (filter p xs)
Every-filter P Q p f [] h = tt
Every-filter {A} P Q p f (x ∷ xs) h = go (p x) (λ e. f x e h.0) (Every-filter P Q p f xs h.1)
  where
    go : (b : Bool) → (b ≡ true → Q x) → Every Q (filter p xs) → Every Q (cond b (x ∷ filter p xs) (filter p xs))
    go true g rest = (g refl, rest)
    go false g rest = rest

pub Every-weaker : {A : Type 0} (P Q : A → Type 0) → ((x : A) → P x → Q x) → (xs : List A) → Every P xs → Every Q xs
Every-weaker P Q f [] h = tt
Every-weaker P Q f (x ∷ xs) h = (f x h.0, Every-weaker P Q f xs h.1)

pub Every-fitting : {A : Type 0} (P : A → Type 0) (weigh : A → ℕ) (room : ℕ) (xs : List A) → Every P xs
    → Every P (fitting weigh room xs)
Every-fitting P weigh room [] h = tt
Every-fitting P weigh room (x ∷ xs) h = go (nat_lt room (weigh x)) (Every-fitting P weigh (room - weigh x) xs h.1)
  where
    go : (b : Bool) → Every P (fitting weigh (room - weigh x) xs) → Every P (cond b [] (x ∷ fitting weigh (room - weigh x) xs))
    go true rest = tt
    go false rest = (h.0, rest)

pub Every-beyond : {A : Type 0} (P : A → Type 0) (weigh : A → ℕ) (room : ℕ) (xs : List A) → Every P xs
    → Every P (beyond weigh room xs)
Every-beyond P weigh room [] h = tt
Every-beyond P weigh room (x ∷ xs) h = go (nat_lt room (weigh x)) (Every-beyond P weigh (room - weigh x) xs h.1)
  where
    go : (b : Bool) → Every P (beyond weigh (room - weigh x) xs) → Every P (cond b (x ∷ xs) (beyond weigh (room - weigh x) xs))
    go true rest = h
    go false rest = rest

pub Every-take : {A : Type 0} (P : A → Type 0) (n : ℕ) (xs : List A) → Every P xs → Every P (take n xs)
Every-take P zero xs h = tt
Every-take P (suc n) [] h = tt
Every-take P (suc n) (x ∷ xs) h = (h.0, Every-take P n xs h.1)

Every-reverse_aux : {A : Type 0} (P : A → Type 0) (xs ys : List A) → Every P xs → Every P ys → Every P (reverse_aux xs ys)
Every-reverse_aux P [] ys h g = g
Every-reverse_aux P (x ∷ xs) ys h g = Every-reverse_aux P xs (x ∷ ys) h.1 (h.0, g)

pub Every-reverse : {A : Type 0} (P : A → Type 0) (xs : List A) → Every P xs → Every P (reverse xs)
Every-reverse P xs h = Every-reverse_aux P xs [] h tt

-- of every entry of three lists
pub record EveryIn {A : Type 0} (P : A → Type 0) (a : Areas A) : Type 0 where
  pub window : Every P a.window
  pub probation : Every P a.probation
  pub protected : Every P a.protected

pub EveryIn-weaker : {A : Type 0} (P Q : A → Type 0) → ((x : A) → P x → Q x) → (a : Areas A) → EveryIn P a → EveryIn Q a
EveryIn-weaker P Q f a h = record {
  window = Every-weaker P Q f a.window h.window;
  probation = Every-weaker P Q f a.probation h.probation;
  protected = Every-weaker P Q f a.protected h.protected;
}

EveryIn-demoted : {A : Type 0} (P : A → Type 0) (weigh : A → ℕ) (limits : Limits) (a : Areas A) → EveryIn P a
    → EveryIn P (demoted weigh limits a)
EveryIn-demoted P weigh limits a h = record {
  window = h.window;
  probation =
      Every-append P (beyond weigh limits.protected a.protected) a.probation
      (Every-beyond P weigh limits.protected a.protected h.protected) h.probation;
  protected = Every-fitting P weigh limits.protected a.protected h.protected;
}

EveryIn-without_last : {A : Type 0} (P : A → Type 0) (n : ℕ) (a : Areas A) → EveryIn P a → EveryIn P (without_last n a)
EveryIn-without_last P n a h = record {
  window = h.window;
  probation = Every-take P (length a.probation - n) a.probation h.probation;
  protected = Every-take P (length a.protected - (n - length a.probation)) a.protected h.protected;
}

EveryIn-admitted : {A : Type 0} (P : A → Type 0) (freq : A → ℕ) (c : A) (a : Areas A) (vs : List A) → P c → EveryIn P a
    → EveryIn P (admitted freq c a vs).areas
EveryIn-admitted {A} P freq c a vs p h = go (list_all (λ v. nat_lt (freq v) (freq c)) vs) (EveryIn-without_last P (length vs) a h)
  where
    go : (b : Bool) → EveryIn P (without_last (length vs) a)
        → EveryIn P (cond b (let s : Settled A = record { areas = entered c (without_last (length vs) a); dropped = vs } in s)
        (record { areas = a; dropped = c ∷ [] })).areas
    go true w = record { window = w.window; probation = (p, w.probation); protected = w.protected }
    go false w = h

EveryIn-all_admitted : {A : Type 0} (P : A → Type 0) (weigh freq : A → ℕ) (limits : Limits) (a : Areas A) (cs : List A)
    → Every P cs → EveryIn P a → EveryIn P (all_admitted weigh freq limits a cs).areas
EveryIn-all_admitted P weigh freq limits a [] e h = h
EveryIn-all_admitted P weigh freq limits a (c ∷ cs) e h =
    EveryIn-all_admitted P weigh freq limits (admitted freq c a (victims weigh limits a c)).areas cs e.1
    (EveryIn-admitted P freq c a (victims weigh limits a c) e.0 h)

pub EveryIn-settle : {A : Type 0} (P : A → Type 0) (weigh freq : A → ℕ) (limits : Limits) (a : Areas A) → EveryIn P a
    → EveryIn P (settle weigh freq limits a).areas
EveryIn-settle P weigh freq limits a h =
    let t = EveryIn-without_last P (length (trimmed weigh limits (demoted weigh limits a)).dropped) (demoted weigh limits a)
    (EveryIn-demoted P weigh limits a h) in
    EveryIn-all_admitted P weigh freq limits
    (narrowed (fitting weigh limits.window a.window) (trimmed weigh limits (demoted weigh limits a)).areas)
    (reverse (beyond weigh limits.window a.window))
    (Every-reverse P (beyond weigh limits.window a.window) (Every-beyond P weigh limits.window a.window h.window))
    (record { window = Every-fitting P weigh limits.window a.window h.window; probation = t.probation; protected = t.protected })

-- an access takes out what is the same
pub EveryIn-accessed : {A : Type 0} (P Q : A → Type 0) (weigh : A → ℕ) (limits : Limits) (is : A → Bool) (x : A) (a : Areas A)
    → ((y : A) → not (is y) ≡ true → P y → Q y) → Q x → EveryIn P a → EveryIn Q (accessed weigh limits is x a)
EveryIn-accessed P Q weigh limits is x a f q h = EveryIn-demoted Q weigh limits (raised is x a) (go (is_in is a.window))
  where
    left : (xs : List _) → Every P xs → Every Q (without is xs)
    left xs g = Every-filter P Q (λ y. not (is y)) f xs g

    go : (b : Bool) → EveryIn Q (cond b
        (record { window = x ∷ without is a.window; probation = without is a.probation; protected = without is a.protected })
        (record { window = without is a.window; probation = without is a.probation; protected = x ∷ without is a.protected }))
    go true = record {
      window = (q, left a.window h.window);
      probation = left a.probation h.probation;
      protected = left a.protected h.protected;
    }
    go false = record {
      window = left a.window h.window;
      probation = left a.probation h.probation;
      protected = (q, left a.protected h.protected);
    }
