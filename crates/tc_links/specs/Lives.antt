-- A connection since it was opened. Source: this project's own.
use Rattle.std.specs.Prelude.{◌≡◌, ℕ, List, [], ◌∷◌, Option, Some, IsSome}
use Rattle.tc_model.specs.Connection.{new_endpoint}
use Rattle.tc_users.specs.declared.users.UserSpec.{UserSpec}
use Rattle.tc_session.specs.TextProtocol.{text_protocol}
use Rattle.tc_links.specs.Talks.{Move, LinkState, Goes}

-- since it was opened a connection made these moves, whose entries' numbers rise: what was said is what its wire took and
-- what waits
pub record IsTalk (rows : List UserSpec) (opened now : LinkState) : Type 0 where
  pub endpoint : opened.session.endpoint ≡ new_endpoint text_protocol
  pub out : opened.session.out ≡ []
  pub last : opened.last ≡ Some 0
  pub rose : IsSome now.last
  pub moves : List Move
  pub sent : List ℕ
  pub goes : Goes rows moves sent [] opened now

-- a connection as its worker keeps it: the users' tables by which it was served, and how often it was done
pub record TalkState : Type 0 where
  pub link : LinkState
  pub tables : List (List UserSpec)
  pub ends : ℕ

-- the tables of a log
abbrev pub tables_in : List (List UserSpec × Unit {0}) → List (List UserSpec)
tables_in [] = []
tables_in (t ∷ ts) = t.0 ∷ tables_in ts

-- each of these tables is this one
abbrev pub AreAll : List UserSpec → List (List UserSpec) → Type 0
AreAll rows [] = Unit {0}
AreAll rows (t ∷ ts) = (t ≡ rows) × AreAll rows ts

-- a connection that goes on, was served by this table alone, and whose entries' numbers rose
pub record IsOpen (rows : List UserSpec) (t : TalkState) : Type 0 where
  pub by : AreAll rows t.tables
  pub on : t.ends ≡ 0
  pub rose : IsSome t.link.last

-- where it is open, it is a talk since it was opened
pub record HasTalk (t : TalkState) : Type 0 where
  pub since : (rows : List UserSpec) → IsOpen rows t → (opened : LinkState) × IsTalk rows opened t.link

-- a connection on which nothing came and nothing was said
pub record IsOpened (conn : ℕ) (gave took : Option (List ℕ)) (t : TalkState) : Type 0 where
  pub conn_is : t.link.conn ≡ conn
  pub endpoint : t.link.session.endpoint ≡ new_endpoint text_protocol
  pub out : t.link.session.out ≡ []
  pub gave_is : t.link.gave ≡ gave
  pub took_is : t.link.took ≡ took
  pub last_is : t.link.last ≡ Some 0
  pub unserved : t.tables ≡ []
  pub on : t.ends ≡ 0
