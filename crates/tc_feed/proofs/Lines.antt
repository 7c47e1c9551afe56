-- Where a line ends, what a request takes, and what a longer stream begins with.
use Rattle.std.specs.Prelude.{◌==◌, not, option_map, nat_lt, min, IfSome}
use Rattle.std.specs.List.{prefix_len}
use Rattle.std.proofs.lemmas.Simd.{length-chunk, get_or-chunk}
use Rattle.std.proofs.lemmas.List.Sums.{prefix_len_passes, prefix_len_stops}
use Rattle.std.proofs.Common.{◌≡◌, ◌≢◌, ℕ, zero, suc, ◌+◌, ◌-◌, ◌<◌, ◌≤◌, Bool, true, false, cond, List, [], ◌∷◌, ◌++◌, length}
use Rattle.std.proofs.Common.{get_or, take, drop, Option, Some, None, refl, sym, ◌∙◌, ap, subst, inr, arith, append_assoc}
use Rattle.std.proofs.Common.{length-append, length-take, length-drop}
use Rattle.std.proofs.lemmas.Bool.Decides.{nat_tests}
use Rattle.std.proofs.Math.Nat.{zero-sub, sub-zero, zero-min, min-zero, suc-min-suc}
use Rattle.std.proofs.lemmas.Bool.{ltb-true, ltb-false, le-ltb, lt-ltb, eqb-true}
use Rattle.std.proofs.lemmas.List.{get_or-drop, get_or-take, take-append-le, drop-append-le, take-take, append-nil}
use Rattle.tc_grammar.specs.declared.command.Head.{Head}
use Rattle.tc_grammar.specs.declared.fault.Fault.TheVariants.{LineTooLong}
use Rattle.tc_grammar.specs.declared.line.Line.{Line}
use Rattle.tc_grammar.specs.declared.line.Line.TheVariants.{Ready, NeedsBlock, Refused as RefusedLine}
use Rattle.tc_grammar.specs.Reading.{reading}
use Rattle.tc_feed.specs.declared.request.Request.TheVariants.{Refused}
use Rattle.tc_feed.specs.declared.request.Framed.{Framed}
use Rattle.tc_feed.specs.declared.passing.Passing.{Passing}
use Rattle.tc_feed.specs.Passing.{passing_of}
use Rattle.tc_feed.specs.Stream.{Reader, line_length, line_room, block_request, block_of, line_request, first_by, first, trimmed}
use Rattle.tc_feed.specs.Stream.{left_by, after_first}
use Rattle.tc_feed.specs.CutStream.{IsFoundInMore, IsCutAnywhere}
use Rattle.tc_feed.specs.Looking.{needed_of, is_inside}
use Rattle.tc_feed.specs.Scanned.{IsScanned, IsAwaited, IsRemembered}

pub line_room-is : line_room ≡ 65537
unfolding line_room
line_room-is = refl

-- a byte that is not inside a line is a line feed
is_feed : (x : ℕ) → is_inside x ≡ false → x ≡ 10
is_feed x e = go (x == 10) refl e
  where
    go : (b : Bool) → (x == 10) ≡ b → not b ≡ false → x ≡ 10
    go true same h = eqb-true x 10 same
    go false same h = absurd (grind arith)

no_line : (b : Bool) (o : Option ℕ) → cond b (Some 0) (option_map suc o) ≡ None → (b ≡ false) × (o ≡ None)
no_line true o e = grind arith
no_line false None e = (refl, refl)
no_line false (Some n) e = grind arith

pub line_found : (xs : List ℕ) (i : ℕ) → i < length xs → line_length (take i xs) ≡ None → get_or xs i 0 ≡ 10
    → line_length xs ≡ Some i
line_found [] i lt none at = absurd (omega arith)
line_found (x ∷ xs) zero lt none at = grind (arith, nat_tests)
line_found (x ∷ xs) (suc i) lt none at =
    let h : ((x == 10) ≡ false) × (line_length (take i xs) ≡ None) = no_line _ _ none in
    rw (h.0, line_found xs i (omega arith) h.1 at)

pub line_more : (xs : List ℕ) (i : ℕ) → i < length xs → line_length (take i xs) ≡ None → get_or xs i 0 ≢ 10
    → line_length (take (suc i) xs) ≡ None
line_more [] i lt none at = refl
line_more (x ∷ xs) zero lt none at = grind (arith, nat_tests)
line_more (x ∷ xs) (suc i) lt none at =
    let h : ((x == 10) ≡ false) × (line_length (take i xs) ≡ None) = no_line _ _ none in
    rw (h.0, line_more xs i (omega arith) h.1 at)

-- nor do bytes that none of more ends
pub lines_more : (xs : List ℕ) (from n : ℕ) → from + n ≤ length xs → line_length (take from xs) ≡ None
    → ((k : ℕ) → k < n → get_or (drop from xs) k 0 ≢ 10) → line_length (take (from + n) xs) ≡ None
lines_more xs from zero le none clean =
    let same : from ≡ from + 0 = omega arith in subst (λ m. line_length (take m xs) ≡ None) same none
lines_more xs from (suc n) le none clean =
    let here = lines_more xs from n (omega (arith, le)) none (λ k lt. clean k (omega (arith, lt))) in
    let same : suc (from + n) ≡ from + suc n = omega arith in
    subst (λ m. line_length (take m xs) ≡ None) same
    (line_more xs (from + n) (omega (arith, le)) here (λ e. clean n (omega arith) (get_or-drop from xs n 0 ∙ e)))

-- no byte of a run is a line feed
run_clean : (xs : List ℕ) (from n k : ℕ) → from + n ≤ length xs → k < n → k < prefix_len is_inside (take n (drop from xs))
    → get_or (drop from xs) k 0 ≢ 10
run_clean xs from n k room lt below e =
    let here : get_or (take n (drop from xs)) k 0 ≡ 10 = get_or-take n (drop from xs) k 0 lt ∙ e in
    let inside : is_inside (get_or (take n (drop from xs)) k 0) ≡ true =
    prefix_len_passes is_inside (take n (drop from xs)) k 0 below in
    let feed : is_inside (get_or (take n (drop from xs)) k 0) ≡ false = rw here refl in cc (sym inside ∙ feed)

-- a run of bytes that are no line feed, and ends before n, ends the line
pub line_in_run : (xs : List ℕ) (from n run : ℕ) → from + n ≤ length xs → line_length (take from xs) ≡ None
    → run ≡ prefix_len is_inside (take n (drop from xs)) → run < n → line_length xs ≡ Some (from + run)
line_in_run xs from n run room none same lt =
    let long = length-chunk from n xs room in
    let stop : is_inside (get_or (take n (drop from xs)) run 0) ≡ false =
    ap (λ k. is_inside (get_or (take n (drop from xs)) k 0)) same
    ∙ prefix_len_stops is_inside (take n (drop from xs)) 0 (omega (arith, long)) in
    let at = get_or-chunk from n xs run 0 lt in
    line_found xs (from + run) (omega arith)
    (lines_more xs from run (omega arith) none (λ k below. run_clean xs from n k room (omega arith) (omega arith)))
    (sym at ∙ is_feed (get_or (take n (drop from xs)) run 0) stop)

-- one that goes on through n bytes leaves the end to be found behind them
pub line_past_run : (xs : List ℕ) (from n run : ℕ) → from + n ≤ length xs → line_length (take from xs) ≡ None
    → run ≡ prefix_len is_inside (take n (drop from xs)) → n ≤ run → line_length (take (from + n) xs) ≡ None
line_past_run xs from n run room none same le =
    lines_more xs from n room none (λ k below. run_clean xs from n k room below (omega arith))

some_line : (b : Bool) (o : Option ℕ) (n m : ℕ) → ((k : ℕ) → o ≡ Some k → k < m) → cond b (Some 0) (option_map suc o) ≡ Some n
    → n < suc m
some_line true o n m h e = let q : 0 ≡ n = (grind arith) in omega arith
some_line false None n m h e = absurd (grind arith)
some_line false (Some k) n m h e = let q : suc k ≡ n = (grind arith) in let lt : k < m = h k refl in omega arith

-- the end of a line is one of the bytes
pub line_within : (xs : List ℕ) (n : ℕ) → line_length xs ≡ Some n → n < length xs
line_within [] n e = absurd (grind arith)
line_within (x ∷ xs) n e = some_line (x == 10) (line_length xs) n (length xs) (λ k h. line_within xs k h) e

-- and is so among the first bytes
pub line_front : (m : ℕ) (xs : List ℕ) (n : ℕ) → line_length (take m xs) ≡ Some n → (n < m) × (n < length xs)
line_front m xs n e =
    let h : n < length (take m xs) = line_within (take m xs) n e in
    let k : length (take m xs) ≡ min m (length xs) = length-take m xs in (omega arith, omega arith)

-- the line that ends in some bytes ends there in them and more
pub line_append : (xs ys : List ℕ) (n : ℕ) → line_length xs ≡ Some n → line_length (xs ++ ys) ≡ Some n
line_append [] ys n e = absurd (grind arith)
line_append (x ∷ xs) ys n e = go (x == 10) (line_length xs) (λ k h. line_append xs ys k h) e
  where
    go : (b : Bool) (o : Option ℕ) → ((k : ℕ) → o ≡ Some k → line_length (xs ++ ys) ≡ Some k)
        → cond b (Some 0) (option_map suc o) ≡ Some n → cond b (Some 0) (option_map suc (line_length (xs ++ ys))) ≡ Some n
    go true o h e = e
    go false None h e = absurd (grind arith)
    go false (Some k) h e = rw (h k refl) e

same_some : {A : Type 0} (x y : A) → Some x ≡ Some y → x ≡ y
same_some x y e = grind arith

none_some : {A : Type 0} (x : A) → None ≡ Some x → ⊥
none_some x e = grind arith

-- a request with a block, where all of it is there
whole_block : Head → ℕ → ℕ → List ℕ → Option Framed
whole_block head line n bytes = Some (record { request = block_request head n bytes; length = line + (n + 2); skip = 0 })

-- a block is within its bytes
block_within : (head : Head) (line n : ℕ) (bytes : List ℕ) (t : Framed) → block_of head line n bytes ≡ Some t
    → t.length ≤ line + length bytes
unfolding whole_block
block_within head line n bytes t e = go (nat_lt (length bytes) (n + 2)) refl e
  where
    go : (b : Bool) → nat_lt (length bytes) (n + 2) ≡ b → cond b None (whole_block head line n bytes) ≡ Some t
        → t.length ≤ line + length bytes
    go true h f = absurd (none_some t f)
    go false h f =
        let q : line + (n + 2) ≡ t.length = ap (λ r. r.length) (same_some _ t f) in
        let w : n + 2 ≤ length bytes = ltb-false _ _ h in omega arith

line_within_bytes : (line : ℕ) (bytes : List ℕ) (said : Line) (t : Framed) → line_request line bytes said ≡ Some t
    → t.length ≤ line + length bytes
line_within_bytes line bytes (Ready command) t e = let q : line ≡ t.length = ap (λ r. r.length) (same_some _ t e) in omega arith
line_within_bytes line bytes (RefusedLine fault quiet skip) t e =
    let q : line ≡ t.length = ap (λ r. r.length) (same_some _ t e) in omega arith
line_within_bytes line bytes (NeedsBlock head n) t e = block_within head line n bytes t e

first_by_within : (limit : ℕ) (u : List ℕ) (end : Option ℕ) (t : Framed) → line_length (take line_room u) ≡ end
    → first_by limit u end ≡ Some t → t.length ≤ length u
first_by_within limit u None t h e = go (nat_lt 65536 (length u)) refl e
  where
    go : (b : Bool) → nat_lt 65536 (length u) ≡ b
        → cond b (Some (record { request = Refused LineTooLong false; length = 65537; skip = 0 })) None ≡ Some t
        → t.length ≤ length u
    go true k f =
        let q : 65537 ≡ t.length = ap (λ r. r.length) (same_some _ t f) in
        let lt : 65536 < length u = ltb-true _ _ k in omega arith
    go false k f = absurd (none_some t f)
first_by_within limit u (Some n) t h e =
    let in_front : n < length u = (line_front line_room u n h).1 in
    let w : t.length ≤ n + 1 + length (drop (n + 1) u) = line_within_bytes (n + 1) (drop (n + 1) u) _ t e in
    omega (arith, length-drop (n + 1) u)

-- a request takes bytes that are there
pub first_within : (limit : ℕ) (u : List ℕ) (t : Framed) → first limit u ≡ Some t → t.length ≤ length u
first_within limit u t e = first_by_within limit u _ t refl e

-- and so does one that is passed over
pub passing_within : (limit : ℕ) (u : List ℕ) (p : Passing) → option_map passing_of (first limit u) ≡ Some p
    → p.length ≤ length u
passing_within limit u p e = go (first limit u) (λ t h. first_within limit u t h) e
  where
    go : (o : Option Framed) → ((t : Framed) → o ≡ Some t → t.length ≤ length u) → option_map passing_of o ≡ Some p
        → p.length ≤ length u
    go None f e = absurd (none_some p e)
    go (Some t) f e =
        let le : t.length ≤ length u = f t refl in
        let same : t.length ≡ p.length = ap (λ r. r.length) (same_some _ p e) in omega arith

-- the law of cutting

-- what is passed over of two pieces
drop_two : (n : ℕ) (a b : List ℕ) → drop n a ++ drop (n - length a) b ≡ drop n (a ++ b)
drop_two zero a b = rw zero-sub refl
drop_two (suc n) [] b = rw sub-zero refl
drop_two (suc n) (x ∷ a) b = let e : suc n - suc (length a) ≡ n - length a = omega arith in rw e (drop_two n a b)

same_reader : (u v : List ℕ) (m n : ℕ) → u ≡ v → m ≡ n
    → ◌≡◌ {A = Reader} (record { unread = u; owed = m }) (record { unread = v; owed = n })
same_reader u v m n e f = cc

pub cut_anywhere : IsCutAnywhere
cut_anywhere r a b =
    same_reader _ _ _ _
    (append_assoc r.unread (drop r.owed a) (drop (r.owed - length a) b) ∙ ap (λ xs. r.unread ++ xs) (drop_two r.owed a b))
    (omega (arith, length-append a b))

-- the first m bytes of more are the first of them, where there are as many, and else some of them
pub take_front : (m : ℕ) (u v : List ℕ) → (ws : List ℕ) × (take m (u ++ v) ≡ take m u ++ ws)
take_front zero u v = ([], refl)
take_front (suc m) [] v = (take (suc m) v, refl)
take_front (suc m) (x ∷ u) v = let h = take_front m u v in (h.0, ap (λ xs. x ∷ xs) h.1)

get_append : (u v : List ℕ) (i : ℕ) → i < length u → get_or (u ++ v) i 0 ≡ get_or u i 0
get_append [] v i lt = absurd (omega arith)
get_append (x ∷ u) v zero lt = refl
get_append (x ∷ u) v (suc i) lt = get_append u v i (omega arith)

block_more : (head : Head) (line n : ℕ) (u v : List ℕ) (t : Framed) → block_of head line n u ≡ Some t
    → block_of head line n (u ++ v) ≡ Some t
unfolding whole_block
block_more head line n u v t e = go (nat_lt (length u) (n + 2)) refl e
  where
    go : (b : Bool) → nat_lt (length u) (n + 2) ≡ b → cond b None (whole_block head line n u) ≡ Some t
        → block_of head line n (u ++ v) ≡ Some t
    go true h f = absurd (none_some t f)
    go false h f =
        let w : n + 2 ≤ length u = ltb-false _ _ h in
        let long : nat_lt (length (u ++ v)) (n + 2) ≡ false = le-ltb _ _ (omega (arith, length-append u v)) in
        rw (long, take-append-le n u v (omega arith), get_append u v n (omega arith), get_append u v (n + 1) (omega arith)) f

line_request_more : (line : ℕ) (u v : List ℕ) (said : Line) (t : Framed) → line_request line u said ≡ Some t
    → line_request line (u ++ v) said ≡ Some t
line_request_more line u v (Ready command) t e = e
line_request_more line u v (RefusedLine fault quiet skip) t e = e
line_request_more line u v (NeedsBlock head n) t e = block_more head line n u v t e

first_more : (limit : ℕ) (u v : List ℕ) (end : Option ℕ) (t : Framed) → line_length (take line_room u) ≡ end
    → first_by limit u end ≡ Some t → first limit (u ++ v) ≡ Some t
first_more limit u v (Some n) t h e =
    let ws = take_front line_room u v in
    let lt : n < length u = (line_front line_room u n h).1 in
    let in_more : line_length (take line_room (u ++ v)) ≡ Some n =
    ap line_length ws.1 ∙ line_append (take line_room u) ws.0 n h in
    rw (in_more, drop-append-le (n + 1) u v (omega arith), take-append-le n u v (omega arith))
    (line_request_more (n + 1) (drop (n + 1) u) v _ t e)
first_more limit u v None t h e = go (nat_lt 65536 (length u)) refl e
  where
    go : (b : Bool) → nat_lt 65536 (length u) ≡ b
        → cond b (Some (record { request = Refused LineTooLong false; length = 65537; skip = 0 })) None ≡ Some t
        → first limit (u ++ v) ≡ Some t
    go false k f = absurd (none_some t f)
    go true k f =
        let lt : 65536 < length u = ltb-true _ _ k in
        let within : line_room ≤ length u = omega (arith, line_room-is, lt) in
        let none : line_length (take line_room (u ++ v)) ≡ None = rw (take-append-le line_room u v within) h in
        let long : nat_lt 65536 (length (u ++ v)) ≡ true = lt-ltb _ _ (omega (arith, length-append u v)) in
        rw (none, long) f

pub found_in_more : IsFoundInMore
found_in_more limit u v t e = first_more limit u v _ t refl e

-- what was looked through is what a line may stand in
pub take_seen : (m : ℕ) (xs : List ℕ) → take (min (length xs) m) xs ≡ take m xs
take_seen zero [] = refl
take_seen (suc m) [] = rw zero-min refl
take_seen zero (x ∷ xs) = rw min-zero refl
take_seen (suc m) (x ∷ xs) = rw suc-min-suc (ap (λ ys. x ∷ ys) (take_seen m xs))

-- no line feed stands before the first one
pub line_before : (xs : List ℕ) (n : ℕ) → line_length xs ≡ Some n → line_length (take n xs) ≡ None
line_before [] n e = absurd (grind arith)
line_before (x ∷ xs) n e = go (x == 10) refl (line_length xs) n (λ k h. line_before xs k h) e
  where
    go : (b : Bool) → (x == 10) ≡ b → (o : Option ℕ) (n : ℕ) → ((k : ℕ) → o ≡ Some k → line_length (take k xs) ≡ None)
        → cond b (Some 0) (option_map suc o) ≡ Some n → line_length (take n (x ∷ xs)) ≡ None
    go true f o zero h e = refl
    go true f o (suc n) h e = absurd (grind arith)
    go false f None n h e = absurd (grind arith)
    go false f (Some k) zero h e = absurd (grind arith)
    go false f (Some k) (suc n) h e = let same : k ≡ n = grind arith in rw (f, h n (ap Some same)) refl

-- a request of which nothing was found needs more bytes than there are
pub needed_more : (line : ℕ) (bytes : List ℕ) (said : Line) → line_request line bytes said ≡ None
    → line + length bytes < needed_of line said
unfolding whole_block
needed_more line bytes (Ready command) e = absurd (grind arith)
needed_more line bytes (RefusedLine fault quiet skip) e = absurd (grind arith)
needed_more line bytes (NeedsBlock head n) e = go (nat_lt (length bytes) (n + 2)) refl e
  where
    go : (b : Bool) → nat_lt (length bytes) (n + 2) ≡ b → cond b None (whole_block head line n bytes) ≡ None
        → line + length bytes < line + (n + 2)
    go true h f = let lt = ltb-true (length bytes) (n + 2) h in omega (arith, lt)
    go false h f = absurd (grind arith)

pub lacking_line : (line : ℕ) (bytes : List ℕ) (said : Line) → line + length bytes < needed_of line said
    → line_request line bytes said ≡ None
lacking_line line bytes (Ready command) h = absurd (omega arith)
lacking_line line bytes (RefusedLine fault quiet skip) h = absurd (omega arith)
lacking_line line bytes (NeedsBlock head n) h =
    let lt : nat_lt (length bytes) (n + 2) ≡ true = lt-ltb _ _ (omega arith) in rw lt refl

-- with fewer bytes than the line's request needs there is none, whatever comes
pub lacking_more : (limit : ℕ) (u v : List ℕ) (n : ℕ) → line_length (take line_room u) ≡ Some n
    → length (u ++ v) < needed_of (n + 1) (reading limit (trimmed (take n u))) → first limit (u ++ v) ≡ None
lacking_more limit u v n h lt =
    let ws = take_front line_room u v in
    let here : n < length u = (line_front line_room u n h).1 in
    let in_more : line_length (take line_room (u ++ v)) ≡ Some n =
    ap line_length ws.1 ∙ line_append (take line_room u) ws.0 n h in
    rw (in_more, take-append-le n u v (omega arith))
    (lacking_line (n + 1) (drop (n + 1) (u ++ v)) _ (omega (arith, lt, length-drop (n + 1) (u ++ v), length-append u v)))

-- the end of a line among some first bytes is one of all
pub end_within : (u : List ℕ) (seen : ℕ) (o : Option ℕ) → line_length (take seen u) ≡ o → IfSome o (λ n. n < length u)
end_within u seen None e = tt
end_within u seen (Some n) e = (line_front seen u n e).1

-- and one of the first 65,537
pub end_below : (u : List ℕ) (seen : ℕ) (o : Option ℕ) → line_length (take seen u) ≡ o → seen ≡ min (length u) 65537
    → IfSome o (λ n. n ≤ 65536)
end_below u seen None e h = tt
end_below u seen (Some n) e h = let lt = (line_front seen u n e).0 in omega (arith, lt)

-- bytes that were looked through in vain
pub scanned_none : (u : List ℕ) (seen : ℕ) → seen ≡ min (length u) 65537 → line_length (take line_room u) ≡ None
    → IsScanned 0 seen 0 u
scanned_none u seen h none = record {
  within = omega arith;
  short = omega arith;
  none =
      ap (λ n. line_length (take n u)) (h ∙ ap (λ n. min (length u) n) (sym line_room-is))
      ∙ (ap line_length (take_seen line_room u) ∙ none);
  nothing = λ owed. absurd (omega arith);
}

-- bytes before the first line feed
pub scanned_line : (u : List ℕ) (n : ℕ) → line_length (take line_room u) ≡ Some n → IsScanned 0 n 0 u
scanned_line u n e =
    let lt = line_front line_room u n e in
    let low : n < line_room = lt.0 in
    let here : n < length u = lt.1 in
    record {
      within = omega arith;
      short = omega (arith, low, line_room-is);
      none = ap line_length (sym (take-take n line_room u (omega (arith, low)))) ∙ line_before (take line_room u) n e;
      nothing = λ owed. absurd (omega arith);
    }

-- what a line's request needs is awaited
pub awaited_line : (limit : ℕ) (u : List ℕ) (n needed : ℕ) → line_length (take line_room u) ≡ Some n
    → needed ≡ needed_of (n + 1) (reading limit (trimmed (take n u))) → needed ≤ limit + 65539 → IsAwaited limit needed u
awaited_line limit u n needed e same bounded = record {
  lacking = λ later lt. lacking_more limit u later n e (omega (arith, same));
  bounded = bounded;
}

-- a line's end is a line feed
at_line : (xs : List ℕ) (n : ℕ) → line_length xs ≡ Some n → get_or xs n 0 ≡ 10
at_line [] n e = absurd (grind arith)
at_line (x ∷ xs) n e = go (x == 10) refl (line_length xs) n (λ k h. at_line xs k h) e
  where
    go : (b : Bool) → (x == 10) ≡ b → (o : Option ℕ) (n : ℕ) → ((k : ℕ) → o ≡ Some k → get_or xs k 0 ≡ 10)
        → cond b (Some 0) (option_map suc o) ≡ Some n → get_or (x ∷ xs) n 0 ≡ 10
    go true f o zero h e = eqb-true x 10 f
    go true f o (suc n) h e = absurd (grind arith)
    go false f None n h e = absurd (grind arith)
    go false f (Some k) zero h e = absurd (grind arith)
    go false f (Some k) (suc n) h e = let same : k ≡ n = grind arith in h n (ap Some same)

get_take : (m : ℕ) (xs : List ℕ) (n : ℕ) → n < m → get_or (take m xs) n 0 ≡ get_or xs n 0
get_take zero xs n lt = absurd (omega arith)
get_take (suc m) [] n lt = refl
get_take (suc m) (x ∷ xs) zero lt = refl
get_take (suc m) (x ∷ xs) (suc n) lt = get_take m xs n (omega arith)

-- a line whose request is not whole is remembered by its end
pub remembered_line : (u : List ℕ) (n needed : ℕ) (said : Line) → line_length (take line_room u) ≡ Some n
    → needed ≡ needed_of (n + 1) said → line_request (n + 1) (drop (n + 1) u) said ≡ None → IsRemembered needed n u
remembered_line u n needed said e same none =
    let lt = line_front line_room u n e in
    let more = needed_more (n + 1) (drop (n + 1) u) said none in
    inr (omega (arith, same, more), lt.1, sym (get_take line_room u n lt.0) ∙ at_line (take line_room u) n e)

-- with fewer bytes than are awaited the reader stays as it is
pub waiting_stays : (limit held needed : ℕ) (u : List ℕ) (r : Reader) → u ≡ r.unread → held ≡ limit → IsAwaited held needed u
    → length r.unread < needed → after_first limit r ≡ r
waiting_stays limit held needed u r same at awaited lt =
    let whole : u ++ [] ≡ r.unread = append-nil u ∙ same in
    let few : length (u ++ []) < needed = rw whole lt in
    let none : first held (u ++ []) ≡ None = awaited.lacking [] few in
    ap (left_by r) (subst (λ xs. first limit xs ≡ None) whole (subst (λ n. first n (u ++ []) ≡ None) at none))
