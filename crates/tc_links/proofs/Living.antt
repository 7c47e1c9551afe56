-- A connection since it was opened, over the turns that its worker makes.
use Rattle.std.proofs.Common.{◌≡◌, ℕ, List, [], ◌∷◌, ◌++◌, length, Option, Some, refl, sym, ◌∙◌, ap, subst}
use Rattle.std.specs.Prelude.{IsSome}
use Rattle.tc_model.specs.Connection.{new_endpoint}
use Rattle.tc_users.specs.declared.users.UserSpec.{UserSpec}
use Rattle.tc_session.specs.TextProtocol.{text_protocol}
use Rattle.tc_links.specs.Talks.{Move, LinkState, DeskState, Goes, Talks, Carries, last_after, notes_in}
use Rattle.tc_links.specs.Lives.{IsTalk, TalkState, tables_in, AreAll, IsOpen, HasTalk}
use Rattle.tc_links.proofs.Talking.{goes-append}
use Rattle.tc_links.proofs.SingleMoves.{carries-same}
use Rattle.tc_links.proofs.Latest.{rose-first, rose-before}

-- the latest entry of a connection for which no call was made
pub carries-last : {sent lost : List ℕ} {a b : LinkState} → Carries sent lost a b → b.last ≡ a.last
carries-last {a = a} x = let goes = x.goes [] in goes.last ∙ ap (last_after a.last) x.silent

-- a connection whose entries' numbers rose up to a visit's end did so before it
pub goes-rose : {rows : List UserSpec} {ms : List Move} {s lost : List ℕ} {a b : LinkState} → Goes rows ms s lost a b
    → IsSome b.last → IsSome a.last
goes-rose {ms = ms} {a = a} x rose =
    rose-before a.last (notes_in ms) (subst (λ (o : Option ℕ). IsSome o) x.last rose)

-- a connection that was just opened
pub talk-opened : {rows : List UserSpec} {a : LinkState} → a.session.endpoint ≡ new_endpoint text_protocol → a.session.out ≡ []
    → a.last ≡ Some 0 → IsTalk rows a a
talk-opened {rows} {a} endpoint out last =
    let still : Carries [] [] a a = carries-same refl in
    record {
      endpoint = endpoint;
      out = out;
      last = last;
      rose = rose-first last;
      moves = still.moves;
      sent = [];
      goes = still.goes rows;
    }

-- after the first half of a turn, where nothing was lost
pub talk-talks : {most : ℕ} {rows : List UserSpec} {sent : List ℕ} {opened a b : LinkState} {from to : DeskState}
    → IsTalk rows opened a → Talks most rows sent [] a b from to → IsSome b.last → IsTalk rows opened b
talk-talks {sent = sent} x y rose = record {
  endpoint = x.endpoint;
  out = x.out;
  last = x.last;
  rose = rose;
  moves = x.moves ++ y.moves;
  sent = x.sent ++ sent;
  goes = goes-append x.goes y.goes;
}

-- after the second half of a turn, where nothing was lost
pub talk-carries : {rows : List UserSpec} {sent : List ℕ} {opened a b : LinkState} → IsTalk rows opened a → Carries sent [] a b
    → IsSome b.last → IsTalk rows opened b
talk-carries {rows} {sent} x y rose = record {
  endpoint = x.endpoint;
  out = x.out;
  last = x.last;
  rose = rose;
  moves = x.moves ++ y.moves;
  sent = x.sent ++ sent;
  goes = goes-append x.goes (y.goes rows);
}

-- what the wire took, and what waits, is all that was said
pub talk-whole : {rows : List UserSpec} {opened now : LinkState} (x : IsTalk rows opened now)
    → x.goes.said ≡ x.sent ++ now.session.out
talk-whole x = sym (ap (λ (xs : List ℕ). xs ++ x.goes.said) x.out) ∙ x.goes.whole

-- the tables of a log with one more
pub tables-more : (rows users : List UserSpec) (x : Unit {0}) (ts : List (List UserSpec × Unit {0}))
    → AreAll rows (tables_in (ts ++ (users, x) ∷ [])) → AreAll rows (tables_in ts) × (users ≡ rows)
tables-more rows users x [] (same, rest) = (tt, same)
tables-more rows users x (t ∷ ts) (same, rest) =
    let more = tables-more rows users x ts rest in ((same, more.0), more.1)

pub tables-by : (rows : List UserSpec) (x : Unit {0}) (ts : List (List UserSpec × Unit {0})) → AreAll rows (tables_in ts)
    → AreAll rows (tables_in (ts ++ (rows, x) ∷ []))
tables-by rows x [] all = (refl, tt)
tables-by rows x (t ∷ ts) (same, rest) = (same, tables-by rows x ts rest)

-- a log with one more is not empty
pub more-some : {X : Type 0} (es : List X) (e : X) → length (es ++ e ∷ []) ≡ 0 → ⊥
more-some [] e none = absurd cc
more-some (x ∷ es) e none = absurd cc

-- a connection that was just opened is a talk
pub has_talk-opened : {t : TalkState} → t.link.session.endpoint ≡ new_endpoint text_protocol → t.link.session.out ≡ []
    → t.link.last ≡ Some 0 → HasTalk t
has_talk-opened {t} endpoint out last = record { since = λ rows still. (t.link, talk-opened endpoint out last) }

-- one that was served by a table, and goes on
pub has_talk-served : {most : ℕ} {users : List UserSpec} {sent lost : List ℕ} {a b : TalkState} {from to : DeskState}
    → HasTalk a → Talks most users sent lost a.link b.link from to → lost ≡ []
    → ((rows : List UserSpec) → IsOpen rows b → IsOpen rows a × (users ≡ rows)) → HasTalk b
has_talk-served {most} {users} {sent} {lost} {a} {b} {from} {to} was x none back = record {
  since = λ rows still.
      let before = back rows still in
      let talk = was.since rows before.0 in
      let whole : Talks most users sent [] a.link b.link from to =
      subst (λ (l : List ℕ). Talks most users sent l a.link b.link from to) none x in (
        talk.0,
        talk-talks talk.1 (subst (λ (u : List UserSpec). Talks most u sent [] a.link b.link from to) before.1 whole) still.rose,
      );
}

-- one that only read or wrote, and goes on
pub has_talk-carried : {sent lost : List ℕ} {a b : TalkState} → HasTalk a → Carries sent lost a.link b.link → lost ≡ []
    → ((rows : List UserSpec) → IsOpen rows b → IsOpen rows a) → HasTalk b
has_talk-carried {sent} {a = a} {b} was x none back = record {
  since = λ rows still.
      let talk = was.since rows (back rows still) in
      let whole : Carries sent [] a.link b.link = subst (λ (l : List ℕ). Carries sent l a.link b.link) none x in
      (talk.0, talk-carries talk.1 whole still.rose);
}

-- one that is done
pub has_talk-done : {t : TalkState} → (t.ends ≡ 0 → ⊥) → HasTalk t
has_talk-done ends = record { since = λ rows still. absurd (ends still.on) }
