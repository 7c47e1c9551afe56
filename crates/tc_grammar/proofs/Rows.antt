-- A line spells its reading and nothing else.
use Rattle.std.specs.Prelude.{nat_le, bytes_eq, codes}
use Rattle.std.specs.List.{list_all}
use Rattle.std.proofs.Common.{◌≡◌, ℕ, ◌-◌, ◌^◌, ◌⊎◌, inl, inr, Bool, true, false, List, [], ◌∷◌, Option, Some, None, ℤ, refl, sym}
use Rattle.std.proofs.Common.{subst, ◌∙◌, arith}
use Rattle.std.proofs.lemmas.Bool.Decides.{nat_tests}
use Rattle.tc_item.specs.KeyRule.{is_key}
use Rattle.tc_grammar.specs.Counting.{count_line}
use Rattle.tc_grammar.specs.Ending.{quiet_of, without_zero}
use Rattle.tc_grammar.specs.Keyed.{delete_of, touch_of}
use Rattle.tc_grammar.specs.Lines.{unknown, bad_format}
use Rattle.tc_grammar.specs.Names.{verb_of}
use Rattle.tc_grammar.specs.Numbers.{longest_block, number_of, exptime_of}
use Rattle.tc_grammar.specs.Reading.{said_by, said_of}
use Rattle.tc_grammar.specs.Retrieval.{get_of, gat_of}
use Rattle.tc_grammar.specs.Storage.{ending_of, head_of, storage_line}
use Rattle.tc_grammar.specs.Table.{IsHead, IsRow, block, too_large, get, gat, delete, count, bad_delta, touch, flush}
use Rattle.tc_grammar.specs.Table.{flush_quietly, flush_later, stats, version, verbosity, quit, skip_of, Spells, empty}
use Rattle.tc_grammar.specs.Table.{unknown_name, row, no_row, EachLineSpellsOneThing}
use Rattle.tc_grammar.specs.Tokens.{tokens}
use Rattle.tc_grammar.specs.Unkeyed.{delayed, flush_of, verbosity_of}
use Rattle.tc_grammar.specs.declared.command.Form.{Form}
use Rattle.tc_grammar.specs.declared.command.Head.{Head}
use Rattle.tc_grammar.specs.declared.command.StoreKind.{StoreKind}
use Rattle.tc_grammar.specs.declared.command.Way.{Way}
use Rattle.tc_grammar.specs.declared.line.Line.{Line}
use Rattle.tc_grammar.specs.declared.verb.Verb.{Verb}
use Rattle.tc_grammar.specs.declared.verb.Verb.TheVariants as name
use Rattle.tc_grammar.proofs.GoodKeys.{keys_of-bad, keys_of-empty, keys_of-good}

-- a name with a row says that row, and one without is a bad format
RowOrBad : ℕ → Verb → List (List ℕ) → Type 0
RowOrBad limit verb rest =
    IsRow limit verb rest (said_by limit (Some verb) rest) ⊎ (said_by limit (Some verb) rest ≡ bad_format (skip_of verb rest))

get-row : (limit : ℕ) (form : Form) (rest : List (List ℕ)) → RowOrBad limit (name.Get form) rest
unfolding RowOrBad get_of
get-row limit form [] = inr (rw keys_of-empty refl)
get-row limit form (key ∷ keys) = go (list_all is_key (key ∷ keys)) refl
  where
    go : (g : Bool) → list_all is_key (key ∷ keys) ≡ g → RowOrBad limit (name.Get form) (key ∷ keys)
    go false e = inr (rw (keys_of-bad (key ∷ keys) e) refl)
    go true e = inl (rw (keys_of-good (key ∷ keys) (omega arith) e) (get form key keys e))

touch-row : (limit : ℕ) (rest : List (List ℕ)) → RowOrBad limit name.Touch rest
unfolding RowOrBad touch_of
touch-row limit [] = inr refl
touch-row limit (key ∷ []) = inr refl
touch-row limit (key ∷ exptime ∷ rest) = go (is_key key) refl (exptime_of exptime) refl (quiet_of rest) refl
  where
    go : (k : Bool) → is_key key ≡ k → (e : Option ℤ) → exptime_of exptime ≡ e → (q : Option Bool) → quiet_of rest ≡ q
        → RowOrBad limit name.Touch (key ∷ exptime ∷ rest)
    go false k e x q y = inr (rw k refl)
    go true k None x q y = inr (rw (k, x) refl)
    go true k (Some e) x None y = inr (rw (k, x, y) refl)
    go true k (Some e) x (Some quiet) y = inl (rw (k, x, y) (touch key exptime rest e quiet k x y))

gat-row : (limit : ℕ) (form : Form) (rest : List (List ℕ)) → RowOrBad limit (name.Gat form) rest
unfolding RowOrBad gat_of
gat-row limit form [] = inr refl
gat-row limit form (exptime ∷ []) = go (exptime_of exptime) refl
  where
    go : (e : Option ℤ) → exptime_of exptime ≡ e → RowOrBad limit (name.Gat form) (exptime ∷ [])
    go None x = inr (rw x refl)
    go (Some e) x = inr (rw (x, keys_of-empty) refl)
gat-row limit form (exptime ∷ key ∷ keys) = go (exptime_of exptime) refl (list_all is_key (key ∷ keys)) refl
  where
    go : (e : Option ℤ) → exptime_of exptime ≡ e → (g : Bool) → list_all is_key (key ∷ keys) ≡ g
        → RowOrBad limit (name.Gat form) (exptime ∷ key ∷ keys)
    go None x g y = inr (rw x refl)
    go (Some e) x false y = inr (rw (x, keys_of-bad (key ∷ keys) y) refl)
    go (Some e) x true y = inl (rw (x, keys_of-good (key ∷ keys) (omega arith) y) (gat form exptime key keys e x y))

delete-row : (limit : ℕ) (rest : List (List ℕ)) → RowOrBad limit name.Delete rest
unfolding RowOrBad delete_of
delete-row limit [] = inr refl
delete-row limit (key ∷ rest) = go (is_key key) refl (quiet_of (without_zero rest)) refl
  where
    go : (k : Bool) → is_key key ≡ k → (q : Option Bool) → quiet_of (without_zero rest) ≡ q
        → RowOrBad limit name.Delete (key ∷ rest)
    go false k q y = inr (rw k refl)
    go true k None y = inr (rw (k, y) refl)
    go true k (Some quiet) y = inl (rw (k, y) (delete key rest quiet k y))

count-row : (limit : ℕ) (way : Way) (rest : List (List ℕ)) → RowOrBad limit (name.Count way) rest
unfolding RowOrBad count_line
count-row limit way [] = inr refl
count-row limit way (key ∷ []) = inr refl
count-row limit way (key ∷ value ∷ rest) = go (is_key key) refl (number_of (2 ^ 64 - 1) value) refl (quiet_of rest) refl
  where
    go : (k : Bool) → is_key key ≡ k → (v : Option ℕ) → number_of (2 ^ 64 - 1) value ≡ v → (q : Option Bool) → quiet_of rest ≡ q
        → RowOrBad limit (name.Count way) (key ∷ value ∷ rest)
    go false k v x q y = inr (rw k refl)
    go true k None x None y = inr (rw (k, x, y) refl)
    go true k (Some n) x None y = inr (rw (k, x, y) refl)
    go true k None x (Some quiet) y = inl (rw (k, x, y) (bad_delta way key value rest quiet k x y))
    go true k (Some n) x (Some quiet) y = inl (rw (k, x, y) (count way key value rest n quiet k x y))

flush-row : (limit : ℕ) (rest : List (List ℕ)) → RowOrBad limit name.FlushAll rest
unfolding RowOrBad flush_of delayed
flush-row limit [] = inl flush
flush-row limit (token ∷ rest) =
    go (bytes_eq token (codes "noreply")) refl rest (number_of (2 ^ 32 - 1) token) refl (quiet_of rest) refl
  where
    go : (b : Bool) → bytes_eq token (codes "noreply") ≡ b → (rest : List (List ℕ)) → (d : Option ℕ)
        → number_of (2 ^ 32 - 1) token ≡ d → (q : Option Bool) → quiet_of rest ≡ q → RowOrBad limit name.FlushAll (token ∷ rest)
    go true b [] d x q y = inl (rw b (flush_quietly token b))
    go true b (word ∷ words) d x q y = inr (rw b refl)
    go false b rest None x q y = inr (rw (b, x) refl)
    go false b rest (Some d) x None y = inr (rw (b, x, y) refl)
    go false b rest (Some d) x (Some quiet) y = inl (rw (b, x, y) (flush_later token rest d quiet b x y))

verbosity-row : (limit : ℕ) (rest : List (List ℕ)) → RowOrBad limit name.Verbosity rest
unfolding RowOrBad verbosity_of
verbosity-row limit [] = inr refl
verbosity-row limit (level ∷ rest) = go (number_of (2 ^ 32 - 1) level) refl (quiet_of rest) refl
  where
    go : (v : Option ℕ) → number_of (2 ^ 32 - 1) level ≡ v → (q : Option Bool) → quiet_of rest ≡ q
        → RowOrBad limit name.Verbosity (level ∷ rest)
    go None x q y = inr (rw x refl)
    go (Some n) x None y = inr (rw (x, y) refl)
    go (Some n) x (Some quiet) y = inl (rw (x, y) (verbosity level rest n quiet x y))

-- tokens that are no head, or that are one
HeadOrNone : StoreKind → List ℕ → List ℕ → List ℕ → List (List ℕ) → Type 0
HeadOrNone kind key flags exptime rest =
    (head_of kind key flags exptime rest ≡ None)
    ⊎ ((head : Head) × (head_of kind key flags exptime rest ≡ Some head) × IsHead kind key flags exptime rest head)

head-cases : (kind : StoreKind) (key flags exptime : List ℕ) (rest : List (List ℕ)) → HeadOrNone kind key flags exptime rest
unfolding HeadOrNone head_of
head-cases kind key flags exptime rest =
    go (is_key key) refl (number_of (2 ^ 32 - 1) flags) refl (exptime_of exptime) refl (ending_of kind rest) refl
  where
    go : (k : Bool) → is_key key ≡ k → (f : Option ℕ) → number_of (2 ^ 32 - 1) flags ≡ f → (e : Option ℤ) → exptime_of exptime ≡ e
        → (q : Option (ℕ × Bool)) → ending_of kind rest ≡ q → HeadOrNone kind key flags exptime rest
    go false k f x e y q z = inl (rw k refl)
    go true k None x e y q z = inl (rw (k, x) refl)
    go true k (Some f) x None y q z = inl (rw (k, x, y) refl)
    go true k (Some f) x (Some e) y None z = inl (rw (k, x, y, z) refl)
    go true k (Some f) x (Some e) y (Some q) z =
        inr (
          record { kind = kind; key = key; flags = f; exptime = e; cas_unique = q.0; quiet = q.1 },
          rw (k, x, y, z) refl,
          record { kind_is = refl; key_is = refl; key_good = k; flags_is = x; exptime_is = y; ending_is = z },
        )

block-row : (limit : ℕ) (kind : StoreKind) (rest : List (List ℕ)) → RowOrBad limit (name.Store kind) rest
unfolding RowOrBad HeadOrNone storage_line
block-row limit kind [] = inr refl
block-row limit kind (key ∷ []) = inr refl
block-row limit kind (key ∷ flags ∷ []) = inr refl
block-row limit kind (key ∷ flags ∷ exptime ∷ []) = inr refl
block-row limit kind (key ∷ flags ∷ exptime ∷ bytes ∷ rest) =
    go (number_of longest_block bytes) refl (head-cases kind key flags exptime rest)
  where
    long : (n : ℕ) (head : Head) → number_of longest_block bytes ≡ Some n → head_of kind key flags exptime rest ≡ Some head
        → IsHead kind key flags exptime rest head → (b : Bool) → nat_le n limit ≡ b
        → RowOrBad limit (name.Store kind) (key ∷ flags ∷ exptime ∷ bytes ∷ rest)
    long n head x h is true b =
        inl (rw (x, h, b) (block kind key flags exptime bytes rest head n is x (grind (arith, nat_tests))))
    long n head x h is false b =
        inl (rw (x, h, b) (too_large kind key flags exptime bytes rest head n is x (grind (arith, nat_tests))))

    go : (n : Option ℕ) → number_of longest_block bytes ≡ n → HeadOrNone kind key flags exptime rest
        → RowOrBad limit (name.Store kind) (key ∷ flags ∷ exptime ∷ bytes ∷ rest)
    go None x h = inr (rw x refl)
    go (Some n) x (inl none) = inr (rw (x, none) refl)
    go (Some n) x (inr some) = long n some.0 x some.1 some.2 (nat_le n limit) refl

said-row : (limit : ℕ) (verb : Verb) (rest : List (List ℕ)) → RowOrBad limit verb rest
unfolding RowOrBad
said-row limit (name.Store kind) rest = block-row limit kind rest
said-row limit (name.Get form) rest = get-row limit form rest
said-row limit (name.Gat form) rest = gat-row limit form rest
said-row limit name.Delete rest = delete-row limit rest
said-row limit (name.Count way) rest = count-row limit way rest
said-row limit name.Touch rest = touch-row limit rest
said-row limit name.FlushAll rest = flush-row limit rest
said-row limit name.Stats [] = inl stats
said-row limit name.Stats (word ∷ rest) = inr refl
said-row limit name.Version [] = inl version
said-row limit name.Version (word ∷ rest) = inr refl
said-row limit name.Verbosity rest = verbosity-row limit rest
said-row limit name.Quit [] = inl quit
said-row limit name.Quit (word ∷ rest) = inr refl

head_of-head : (kind : StoreKind) (key flags exptime : List ℕ) (rest : List (List ℕ)) (head : Head)
    → IsHead kind key flags exptime rest head → head_of kind key flags exptime rest ≡ Some head
unfolding head_of
head_of-head kind key flags exptime rest head is =
    rw (is.key_good, is.flags_is, is.exptime_is, is.ending_is, ← is.kind_is, ← is.key_is) refl

-- a row is what its tokens say
row-said : (limit : ℕ) {verb : Verb} {rest : List (List ℕ)} {said : Line} → IsRow limit verb rest said
    → said ≡ said_by limit (Some verb) rest
unfolding storage_line get_of gat_of delete_of count_line touch_of flush_of delayed verbosity_of
row-said limit (block kind key flags exptime bytes rest head n is x within) =
    let b : nat_le n limit ≡ true = grind (arith, nat_tests) in rw (x, head_of-head kind key flags exptime rest head is, b) refl
row-said limit (too_large kind key flags exptime bytes rest head n is x above) =
    let b : nat_le n limit ≡ false = grind (arith, nat_tests) in rw (x, head_of-head kind key flags exptime rest head is, b) refl
row-said limit (get form key keys good) = rw (keys_of-good (key ∷ keys) (omega arith) good) refl
row-said limit (gat form exptime key keys e x good) = rw (x, keys_of-good (key ∷ keys) (omega arith) good) refl
row-said limit (delete key rest quiet k y) = rw (k, y) refl
row-said limit (count way key value rest n quiet k x y) = rw (k, x, y) refl
row-said limit (bad_delta way key value rest quiet k x y) = rw (k, x, y) refl
row-said limit (touch key exptime rest e quiet k x y) = rw (k, x, y) refl
row-said limit flush = refl
row-said limit (flush_quietly token b) = rw b refl
row-said limit (flush_later delay rest d quiet b x y) = rw (b, x, y) refl
row-said limit stats = refl
row-said limit version = refl
row-said limit (verbosity level rest n quiet x y) = rw (x, y) refl
row-said limit quit = refl

-- no row is a bad format
row-bad_format : (limit skip : ℕ) {verb : Verb} {rest : List (List ℕ)} → IsRow limit verb rest (bad_format skip) → ⊥
row-bad_format limit skip h = elim h [ ]

said_of-none : (limit : ℕ) (word : List ℕ) (rest : List (List ℕ)) → verb_of word ≡ None → said_of limit (word ∷ rest) ≡ unknown
said_of-none limit word rest e = rw e refl

said_of-some : (limit : ℕ) (word : List ℕ) (rest : List (List ℕ)) (verb : Verb) → verb_of word ≡ Some verb
    → said_of limit (word ∷ rest) ≡ said_by limit (Some verb) rest
said_of-some limit word rest verb e = rw e refl

no_row_where_bad : (limit : ℕ) (verb : Verb) (rest : List (List ℕ))
    → said_by limit (Some verb) rest ≡ bad_format (skip_of verb rest) → (said : Line) → IsRow limit verb rest said → ⊥
no_row_where_bad limit verb rest bad said h =
    row-bad_format limit (skip_of verb rest) (subst (IsRow limit verb rest) (row-said limit h ∙ bad) h)

-- tokens spell what they say
spells-said_of : (limit : ℕ) (words : List (List ℕ)) → Spells limit words (said_of limit words)
unfolding RowOrBad
spells-said_of limit [] = empty
spells-said_of limit (word ∷ rest) = go (verb_of word) refl
  where
    go : (v : Option Verb) → verb_of word ≡ v → Spells limit (word ∷ rest) (said_of limit (word ∷ rest))
    go None e = subst (Spells limit (word ∷ rest)) (sym (said_of-none limit word rest e)) (unknown_name word rest e)
    go (Some verb) e = by (said-row limit verb rest)
      where
        by : RowOrBad limit verb rest → Spells limit (word ∷ rest) (said_of limit (word ∷ rest))
        by (inl h) =
            row word rest verb (said_of limit (word ∷ rest)) e
            (subst (IsRow limit verb rest) (sym (said_of-some limit word rest verb e)) h)
        by (inr bad) =
            subst (Spells limit (word ∷ rest)) (sym (said_of-some limit word rest verb e ∙ bad))
            (no_row word rest verb e (no_row_where_bad limit verb rest bad))

-- and nothing else
spells-only : (limit : ℕ) {words : List (List ℕ)} {other : Line} → Spells limit words other → other ≡ said_of limit words
unfolding RowOrBad
spells-only limit empty = refl
spells-only limit (unknown_name word rest e) = sym (said_of-none limit word rest e)
spells-only limit (row word rest verb said e h) = row-said limit h ∙ sym (said_of-some limit word rest verb e)
spells-only limit (no_row word rest verb e none) = by (said-row limit verb rest)
  where
    by : RowOrBad limit verb rest → bad_format (skip_of verb rest) ≡ said_of limit (word ∷ rest)
    by (inl h) = absurd (none _ h)
    by (inr bad) = sym (said_of-some limit word rest verb e ∙ bad)

pub each_line_spells_one_thing : EachLineSpellsOneThing
each_line_spells_one_thing limit line = (spells-said_of limit (tokens line), λ other h. spells-only limit h)
