-- What waits, as it is shared, written to and sent.
use Rattle.std.proofs.Common.{◌≡◌, ℕ, ◌+◌, ◌-◌, ◌<◌, ◌≤◌, List, [], ◌∷◌, ◌++◌, length, take, drop, sym, ◌∙◌, ap, refl, arith}
use Rattle.std.proofs.Common.{append_assoc, length-append, length-drop, get_or, zero, suc, subst, Option, None, Some, IfSome, Bor}
use Rattle.std.specs.Slice.{IsItemAt}
use Rattle.std.proofs.lemmas.List.{append-nil, take-append-le, drop-append-le, drop-drop, take_all, drop_all, drop_at}
use Rattle.std.proofs.lemmas.List.{length-take-le, take-append-drop, take_rest, drop-take}
use Rattle.tc_session.specs.declared.chain.Piece.{Piece}
use Rattle.tc_session.specs.Unsent.{joined, reach, weight, HaveData, IsBegun, Says}

-- sums over pieces

pub reach-append : (ps qs : List Piece) → reach (ps ++ qs) ≡ reach ps + reach qs
reach-append [] qs = omega arith
reach-append (p ∷ ps) qs = omega (arith, reach-append ps qs)

pub weight-append : (ps qs : List Piece) → weight (ps ++ qs) ≡ weight ps + weight qs
weight-append [] qs = omega arith
weight-append (p ∷ ps) qs = omega (arith, weight-append ps qs)

pub data-append : (ps qs : List Piece) → HaveData ps → HaveData qs → HaveData (ps ++ qs)
data-append [] qs h k = k
data-append (p ∷ ps) qs h k = (h.0, data-append ps qs h.1 k)

pub begun-append : (s : ℕ) (ps qs : List Piece) → IsBegun s ps → HaveData qs → IsBegun s (ps ++ qs)
begun-append s [] [] h k = h
begun-append s [] (q ∷ qs) h k = omega (arith, k.0, h)
begun-append s (p ∷ ps) qs h k = h

pub begun_le : (s : ℕ) (ps : List Piece) → IsBegun s ps → s ≤ reach ps + weight ps
begun_le s [] h = omega arith
begun_le s (p ∷ ps) h = omega arith

pub begun_drop : (n : ℕ) (ps : List Piece) → HaveData ps → IsBegun 0 (drop n ps)
begun_drop zero [] h = refl
begun_drop zero (p ∷ ps) h = omega (arith, h.0)
begun_drop (suc n) [] h = refl
begun_drop (suc n) (p ∷ ps) h = begun_drop n ps h.1

data_at : (ps : List Piece) (i : ℕ) (p : Piece) → HaveData ps → i < length ps → p ≡ get_or ps i p → 0 < length p.blob
data_at [] i p h l e = absurd (omega arith)
data_at (q ∷ ps) zero p h l e = let s : p ≡ q = e in rw s h.0
data_at (q ∷ ps) (suc i) p h l e = data_at ps i p h.1 (omega arith) e

pub some_at : (ps : List Piece) (i : ℕ) (o : Option (Bor Piece)) → HaveData ps → IsItemAt ps i o
    → IfSome o (λ p. 0 < length p.now.blob)
some_at ps i None h m = tt
some_at ps i (Some p) h m = data_at ps i p.now h m.3.0 m.1

light_at : (ps : List Piece) (i n : ℕ) (p : Piece) → weight ps ≤ n → i < length ps → p ≡ get_or ps i p → length p.blob ≤ n
light_at [] i n p h l e = absurd (omega arith)
light_at (q ∷ ps) zero n p h l e = let s : p ≡ q = e in rw s (omega arith)
light_at (q ∷ ps) (suc i) n p h l e = light_at ps i n p (omega arith) (omega arith) e

pub few_at : (ps : List Piece) (i n : ℕ) (o : Option (Bor Piece)) → weight ps ≤ n → IsItemAt ps i o
    → IfSome o (λ p. length p.now.blob ≤ n)
few_at ps i n None h m = tt
few_at ps i n (Some p) h m = light_at ps i n p.now h m.3.0 m.1

pub reach_first : (ps rest : List Piece) (p : Piece) → ps ≡ p ∷ rest → reach ps ≡ p.before + reach rest
reach_first ps rest p e = ap reach e

pub begun_first : (s : ℕ) (ps rest : List Piece) (p : Piece) → ps ≡ p ∷ rest → IsBegun s ps → s < p.before + length p.blob
begun_first s ps rest p e h = subst (IsBegun s) e h

-- pieces joined with own bytes

pub length-joined : (xs : List ℕ) (ps : List Piece) → reach ps ≤ length xs
    → length (joined xs ps) ≡ length xs + weight ps
length-joined xs [] h = omega arith
length-joined xs (p ∷ ps) h =
    let le : p.before ≤ length xs = omega arith in
    let within : reach ps ≤ length (drop p.before xs) = omega (arith, length-drop p.before xs) in
    let e = length-joined (drop p.before xs) ps within in
    let a = length-append (take p.before xs) (p.blob ++ joined (drop p.before xs) ps) in
    let b = length-append p.blob (joined (drop p.before xs) ps) in
    omega (arith, e, a, b, length-take-le p.before xs le, length-drop p.before xs)

-- what stands behind pieces stands behind what they say
pub joined-append : (xs zs : List ℕ) (ps qs : List Piece) (text : List ℕ) → reach ps ≤ length xs
    → joined (drop (reach ps) xs ++ zs) qs ≡ drop (reach ps) xs ++ text
    → joined (xs ++ zs) (ps ++ qs) ≡ joined xs ps ++ text
joined-append xs zs [] qs text h e = e
joined-append xs zs (p ∷ ps) qs text h e =
    let le : p.before ≤ length xs = omega arith in
    let within : reach ps ≤ length (drop p.before xs) = omega (arith, length-drop p.before xs) in
    let same = drop-drop (reach ps) p.before xs in
    let k : joined (drop (reach ps) (drop p.before xs) ++ zs) qs ≡ drop (reach ps) (drop p.before xs) ++ text = rw same e in
    let rest = joined-append (drop p.before xs) zs ps qs text within k in
    rw (take-append-le p.before xs zs le, drop-append-le p.before xs zs le, rest) (simp append_assoc)

pub joined-write : (xs t : List ℕ) (ps : List Piece) → reach ps ≤ length xs → joined (xs ++ t) ps ≡ joined xs ps ++ t
joined-write xs t ps h = ap (joined (xs ++ t)) (sym (append-nil ps)) ∙ joined-append xs t ps [] t h refl

pub joined-push : (xs : List ℕ) (ps : List Piece) (p : Piece) → reach ps + p.before ≡ length xs
    → joined xs (ps ++ p ∷ []) ≡ joined xs ps ++ p.blob
joined-push xs ps p h =
    let r = drop (reach ps) xs in
    let long : length r ≤ p.before = omega (arith, length-drop (reach ps) xs) in
    let front : take p.before (r ++ []) ≡ r = rw (append-nil r) (take_all p.before r long) in
    let none : drop p.before (r ++ []) ≡ [] = rw (append-nil r) (drop_all p.before r long) in
    let one : joined (r ++ []) (p ∷ []) ≡ r ++ p.blob = rw (front, none, append-nil p.blob) refl in
    ap (λ (l : List ℕ). joined l (ps ++ p ∷ [])) (sym (append-nil xs))
    ∙ joined-append xs [] ps (p ∷ []) p.blob (omega arith) one

-- own bytes behind a start

pub appended : (from : ℕ) (own t : List ℕ) (ps : List Piece) → from + reach ps ≤ length own
    → joined (drop from (own ++ t)) ps ≡ joined (drop from own) ps ++ t
appended from own t ps h =
    let within : reach ps ≤ length (drop from own) = omega (arith, length-drop from own) in
    ap (λ (l : List ℕ). joined l ps) (drop-append-le from own t (omega arith)) ∙ joined-write (drop from own) t ps within

pub shared_hit : (from : ℕ) (own line end new : List ℕ) (ps : List Piece) (p : Piece) → from + reach ps ≤ length own
    → new ≡ (own ++ line) ++ end → from + reach ps + p.before ≡ length (own ++ line)
    → joined (drop from new) (ps ++ p ∷ []) ≡ joined (drop from own) ps ++ (line ++ (p.blob ++ end))
shared_hit from own line end new ps p h e long =
    let all = ps ++ p ∷ [] in
    let reached = reach-append ps (p ∷ []) in
    let at : from + reach all ≤ length (own ++ line) = omega (arith, reached) in
    let placed : reach ps + p.before ≡ length (drop from (own ++ line)) = omega (arith, length-drop from (own ++ line)) in
    let a = appended from (own ++ line) end all at in
    let b = joined-push (drop from (own ++ line)) ps p placed in
    let c = appended from own line ps h in
    rw (e, a, b, c) (simp append_assoc)

pub length_waiting : (s start : ℕ) (own : List ℕ) (ps : List Piece) → start + reach ps ≤ length own → IsBegun s ps
    → length (drop s (joined (drop start own) ps)) ≡ length own - start + weight ps - s
length_waiting s start own ps h b =
    let within : reach ps ≤ length (drop start own) = omega (arith, length-drop start own) in
    omega (arith, length-drop s (joined (drop start own) ps), length-joined (drop start own) ps within, length-drop start own)

pub written : (s start : ℕ) (own t : List ℕ) (ps : List Piece) → start + reach ps ≤ length own → IsBegun s ps
    → drop s (joined (drop start (own ++ t)) ps) ≡ drop s (joined (drop start own) ps) ++ t
written s start own t ps h b =
    let within : reach ps ≤ length (drop start own) = omega (arith, length-drop start own) in
    let few = begun_le s ps b in
    let le : s ≤ length (joined (drop start own) ps) =
    omega (arith, few, length-joined (drop start own) ps within, within) in
    ap (λ (l : List ℕ). drop s (joined l ps)) (drop-append-le start own t (omega arith))
    ∙ (ap (drop s) (joined-write (drop start own) t ps within) ∙ drop-append-le s (joined (drop start own) ps) t le)

-- a list that begins with another is that and what stands behind
grown : (old new : List ℕ) → take (length old) new ≡ old → new ≡ old ++ drop (length old) new
grown old new e = sym (take-append-drop (length old) new) ∙ ap (λ (l : List ℕ). l ++ drop (length old) new) e

pub spliced : (s start : ℕ) (old new text : List ℕ) (ps qs : List Piece) → start + reach ps ≤ length old → IsBegun s ps
    → take (length old) new ≡ old → Says (drop (start + reach ps) old) (drop (start + reach ps) new) qs text
    → drop s (joined (drop start new) (ps ++ qs)) ≡ drop s (joined (drop start old) ps) ++ text
spliced s start old new text ps qs h b front t =
    let zs = drop (length old) new in
    let e = grown old new front in
    let within : reach ps ≤ length (drop start old) = omega (arith, length-drop start old) in
    let few = begun_le s ps b in
    let le : s ≤ length (joined (drop start old) ps) = omega (arith, few, length-joined (drop start old) ps within, within) in
    let own : drop start new ≡ drop start old ++ zs = ap (drop start) e ∙ drop-append-le start old zs (omega arith) in
    let behind : drop (start + reach ps) new ≡ drop (start + reach ps) old ++ zs =
    ap (drop (start + reach ps)) e ∙ drop-append-le (start + reach ps) old zs h in
    let same = drop-drop (reach ps) start old in
    let k : joined (drop (reach ps) (drop start old) ++ zs) qs ≡ drop (reach ps) (drop start old) ++ text =
    rw (same, ← behind) t.says in
    ap (λ (l : List ℕ). drop s (joined l (ps ++ qs))) own
    ∙ (ap (drop s) (joined-append (drop start old) zs ps qs text within k)
    ∙ drop-append-le s (joined (drop start old) ps) text le)

pub spliced_within : (start : ℕ) (old new text : List ℕ) (ps qs : List Piece) → start + reach ps ≤ length old
    → take (length old) new ≡ old → Says (drop (start + reach ps) old) (drop (start + reach ps) new) qs text
    → start + reach (ps ++ qs) ≤ length new
spliced_within start old new text ps qs h front t =
    let e = ap length (grown old new front) ∙ length-append old (drop (length old) new) in
    omega (arith, e, t.within, reach-append ps qs, length-drop (start + reach ps) new)

-- the first bytes are sent

pub own_sent : (s n start left : ℕ) (own new : List ℕ) (ps : List Piece) → ps ≡ [] → IsBegun s ps
    → drop left new ≡ drop (start + n) own
    → drop s (joined (drop left new) ps) ≡ drop n (drop s (joined (drop start own) ps))
own_sent s n start left own new [] e b same =
    rw b (same ∙ sym (drop-drop n start own))
own_sent s n start left own new (p ∷ ps) e b same = cc

piece_gone : (s start left : ℕ) (own new : List ℕ) (p : Piece) (ps : List Piece) → s < p.before + length p.blob
    → start + (p.before + reach ps) ≤ length own → drop left new ≡ drop (start + p.before) own
    → joined (drop left new) ps ≡ drop (p.before + length p.blob - s) (drop s (joined (drop start own) (p ∷ ps)))
piece_gone s start left own new p ps b h same =
    let xs = drop start own in
    let le : p.before ≤ length xs = omega (arith, length-drop start own) in
    let front = take p.before xs ++ p.blob in
    let behind = joined (drop p.before xs) ps in
    let long : length front ≡ p.before + length p.blob =
    omega (arith, length-append (take p.before xs) p.blob, length-take-le p.before xs le) in
    let all : s + (p.before + length p.blob - s) ≡ p.before + length p.blob = omega arith in
    let whole = drop-drop (p.before + length p.blob - s) s (joined xs (p ∷ ps)) in
    let cut : drop (p.before + length p.blob) (joined xs (p ∷ ps)) ≡ behind =
    ap (drop (p.before + length p.blob)) (sym (append_assoc (take p.before xs) p.blob behind))
    ∙ drop_at front behind (p.before + length p.blob) long in
    let own_behind : drop left new ≡ drop p.before xs = same ∙ sym (drop-drop p.before start own) in
    ap (λ (l : List ℕ). joined l ps) own_behind
    ∙ sym (whole ∙ (ap (λ n. drop n (joined xs (p ∷ ps))) all ∙ cut))

pub piece_sent : (s start left : ℕ) (own new : List ℕ) (p : Piece) (ps rest : List Piece) → ps ≡ p ∷ rest → IsBegun s ps
    → start + reach ps ≤ length own → drop left new ≡ drop (start + p.before) own
    → joined (drop left new) rest ≡ drop (p.before + length p.blob - s) (drop s (joined (drop start own) ps))
piece_sent s start left own new p ps rest e b h same =
    let within : start + (p.before + reach rest) ≤ length own = omega (arith, reach_first ps rest p e) in
    piece_gone s start left own new p rest (begun_first s ps rest p e b) within same
    ∙ ap (λ (l : List Piece). drop (p.before + length p.blob - s) (drop s (joined (drop start own) l))) (sym e)

-- the first slice of parts

own_first : (s : ℕ) (own : List ℕ) (p : Piece) (ps : List Piece) → s < p.before → p.before ≤ length own
    → drop s (joined own (p ∷ ps)) ≡ take (p.before - s) (drop s own) ++ drop p.before (joined own (p ∷ ps))
own_first s own p ps h le =
    let r = p.blob ++ joined (drop p.before own) ps in
    let long : length (take p.before own) ≡ p.before = length-take-le p.before own le in
    let sum : s + (p.before - s) ≡ p.before = omega arith in
    let first : drop s (take p.before own) ≡ take (p.before - s) (drop s own) =
    ap (λ n. drop s (take n own)) (sym sum) ∙ drop-take s (p.before - s) own in
    drop-append-le s (take p.before own) r (omega arith)
    ∙ (ap (λ (l : List ℕ). l ++ r) first
    ∙ ap (λ (l : List ℕ). take (p.before - s) (drop s own) ++ l) (sym (drop_at (take p.before own) r p.before long)))

data_first : (s : ℕ) (own : List ℕ) (p : Piece) (ps : List Piece) → p.before ≤ s → s < p.before + length p.blob
    → p.before ≤ length own
    → drop s (joined own (p ∷ ps)) ≡ drop (s - p.before) p.blob ++ joined (drop p.before own) ps
data_first s own p ps h k le =
    let r = joined (drop p.before own) ps in
    let long : length (take p.before own) ≡ p.before = length-take-le p.before own le in
    let sum : p.before + (s - p.before) ≡ s = omega arith in
    ap (λ n. drop n (joined own (p ∷ ps))) (sym sum)
    ∙ (sym (drop-drop (s - p.before) p.before (joined own (p ∷ ps)))
    ∙ (ap (drop (s - p.before)) (drop_at (take p.before own) (p.blob ++ r) p.before long)
    ∙ drop-append-le (s - p.before) p.blob r (omega arith)))

pub own_split : (s : ℕ) (own : List ℕ) (ps rest : List Piece) (p : Piece) → ps ≡ p ∷ rest → s < p.before
    → reach ps ≤ length own
    → drop s (joined own ps) ≡ take (p.before - s) (drop s own) ++ drop p.before (joined own ps)
own_split s own ps rest p e h within =
    let le : p.before ≤ length own = omega (arith, reach_first ps rest p e) in
    rw e (own_first s own p rest h le)

pub data_split : (s : ℕ) (own : List ℕ) (ps rest : List Piece) (p : Piece) → ps ≡ p ∷ rest → p.before ≤ s → IsBegun s ps
    → reach ps ≤ length own
    → drop s (joined own ps) ≡ drop (s - p.before) p.blob ++ joined (drop p.before own) rest
data_split s own ps rest p e h b within =
    let le : p.before ≤ length own = omega (arith, reach_first ps rest p e) in
    rw e (data_first s own p rest h (begun_first s ps rest p e b) le)

pub data_behind : (s len : ℕ) (own blob : List ℕ) (ps rest : List Piece) (p : Piece) → blob ≡ p.blob → ps ≡ p ∷ rest
    → p.before ≤ s → IsBegun s ps → reach ps ≤ length own → len ≡ length (drop s (joined own ps)) → IsBegun 0 rest
    → (reach rest ≤ length (take (length own - p.before) (drop p.before own))) × IsBegun 0 rest
    × (len - length (take (length blob - (s - p.before)) (drop (s - p.before) blob))
    ≡ length (joined (take (length own - p.before) (drop p.before own)) rest))
data_behind s len own blob ps rest p same e h b within long none =
    let split = data_split s own ps rest p e h b within in
    let first = drop (s - p.before) p.blob in
    let behind = joined (drop p.before own) rest in
    let sum : length (drop s (joined own ps)) ≡ length first + length behind = ap length split ∙ length-append first behind in
    let reached : reach ps ≡ p.before + reach rest = reach_first ps rest p e in
    let fits : reach rest ≤ length (drop p.before own) = omega (arith, length-drop p.before own) in
    let left : len - length first ≡ length behind = omega arith in
    rw (same, take_rest p.blob (s - p.before), take_rest own p.before) (fits, none, left)

-- what is spliced behind all that waits

pub spliced_at : (s start from : ℕ) (old new text : List ℕ) (ps qs all : List Piece) → from ≡ start + reach ps
    → all ≡ ps ++ qs → start + reach ps ≤ length old → IsBegun s ps → take (length old) new ≡ old
    → Says (drop from old) (drop from new) qs text
    → drop s (joined (drop start new) all) ≡ drop s (joined (drop start old) ps) ++ text
spliced_at s start from old new text ps qs all e f h b front t =
    let P : ℕ → Type 0 = λ n. Says (drop n old) (drop n new) qs text in
    ap (λ (l : List Piece). drop s (joined (drop start new) l)) f
    ∙ spliced s start old new text ps qs h b front (subst P e t)

pub spliced_fits : (s start from : ℕ) (old new text : List ℕ) (ps qs all : List Piece) → from ≡ start + reach ps
    → all ≡ ps ++ qs → start + reach ps ≤ length old → IsBegun s ps → take (length old) new ≡ old
    → Says (drop from old) (drop from new) qs text → (start + reach all ≤ length new) × IsBegun s all
spliced_fits s start from old new text ps qs all e f h b front t =
    let P : ℕ → Type 0 = λ n. Says (drop n old) (drop n new) qs text in
    let within = spliced_within start old new text ps qs h front (subst P e t) in
    let begun = begun-append s ps qs b t.some in
    let reached : reach all ≡ reach (ps ++ qs) = ap reach f in
    (omega (arith, within, reached), subst (IsBegun s) (sym f) begun)
