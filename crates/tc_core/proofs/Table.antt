-- A step of one connection, in the table of all.
use Rattle.std.specs.Prelude.{map, option_map}
use Rattle.std.specs.Ordering.{nat_cmp}
use Rattle.std.specs.Map.{lookup, set_value, keys_of}
use Rattle.std.specs.BTreeMap.{is_at, insert_entry}
use Rattle.std.specs.List.Sorted.{IsStrictlySortedBy}
use Rattle.std.proofs.Common.{◌≡◌, ℕ, List, [], Some, None, refl, sym, ◌∙◌, ap}
use Rattle.tc_model.specs.Connection.{Happening, Open, new_endpoint}
use Rattle.tc_model.specs.Server.{Effect, quiet_effect, effect, numbered, with_numbered, with_some}
use Rattle.tc_users.specs.declared.users.UserSpec.{UserSpec}
use Rattle.tc_plain.specs.UserCache.{UserCache}
use Rattle.tc_session.specs.SessionView.{SessionView}
use Rattle.tc_session.specs.TextProtocol.{text_protocol}
use Rattle.tc_core.specs.declared.step.Happening.{Happening as HappeningCode}
use Rattle.tc_core.specs.declared.step.Happening.TheVariants.{Open as IsOpen, Piece as IsPiece, Act as IsAct, Shut as IsShut}
use Rattle.tc_core.specs.ServerMachine.{server_machine}
use Rattle.tc_core.specs.Steps.{connection_of, numbered_of, happening_of}
use Rattle.tc_core.specs.Refused.{IsRefusedThere, IsRefusedOn, There}
use Rattle.tc_core.proofs.Sessions.{numbered-sessions, with_numbered-insert, with_numbered-set}

-- a step of a connection that is there
module _ (rows : List UserSpec) (clock c : ℕ) (caches : List UserCache) (es : List (ℕ × SessionView)) (was : SessionView)
    (x : Happening) (sorted : IsStrictlySortedBy nat_cmp (keys_of es)) (at : lookup (is_at (nat_cmp c)) es ≡ Some was) where
  here : numbered c (map numbered_of es) ≡ Some (connection_of was)
  here = numbered-sessions c es ∙ ap (option_map connection_of) at

  pub there-caches : (caches' : List UserCache)
      → caches' ≡ (effect server_machine rows clock caches x (Some (connection_of was))).caches
      → caches' ≡ (effect server_machine rows clock caches x (numbered c (map numbered_of es))).caches
  there-caches caches' h = h ∙ sym (ap (λ o. (effect server_machine rows clock caches x o).caches) here)

  written : (s : SessionView) (later : List (ℕ × SessionView)) → later ≡ set_value (is_at (nat_cmp c)) es s
      → map numbered_of later ≡ with_numbered c (connection_of s) (map numbered_of es)
  written s later e = ap (map numbered_of) e ∙ with_numbered-set c s was es sorted at

  pub there-connections : (s : SessionView) (later : List (ℕ × SessionView)) → later ≡ set_value (is_at (nat_cmp c)) es s
      → Some (connection_of s) ≡ (effect server_machine rows clock caches x (Some (connection_of was))).connection
      → map numbered_of later ≡ with_some c
      (effect server_machine rows clock caches x (numbered c (map numbered_of es))).connection (map numbered_of es)
  there-connections s later e h =
      written s later e
      ∙ ap (λ o. with_some c o (map numbered_of es))
      (h ∙ sym (ap (λ o. (effect server_machine rows clock caches x o).connection) here))

  pub there-refused : (s : SessionView) (caches' : List UserCache) (later : List (ℕ × SessionView))
      → later ≡ set_value (is_at (nat_cmp c)) es s
      → IsRefusedThere x rows clock caches (connection_of was) caches' (connection_of s)
      → IsRefusedOn x rows clock c caches (map numbered_of es) caches' (map numbered_of later)
  there-refused s caches' later e h = There (connection_of was) (connection_of s) here h (written s later e)

-- nothing but opening is done where there is no connection
effect-absent : (rows : List UserSpec) (clock : ℕ) (caches : List UserCache) (x : HappeningCode) → (x ≡ IsOpen → ⊥)
    → effect server_machine rows clock caches (happening_of x) None ≡ quiet_effect server_machine caches None
effect-absent rows clock caches IsOpen ne = absurd (ne refl)
effect-absent rows clock caches (IsPiece bytes) ne = refl
effect-absent rows clock caches IsAct ne = refl
effect-absent rows clock caches IsShut ne = refl

-- a step where there is no connection
module _ (rows : List UserSpec) (clock c : ℕ) (caches : List UserCache) (es : List (ℕ × SessionView))
    (none : lookup (is_at (nat_cmp c)) es ≡ None) where
  nothing : numbered c (map numbered_of es) ≡ None
  nothing = numbered-sessions c es ∙ ap (option_map connection_of) none

  pub opened-connections : (s : SessionView) (later : List (ℕ × SessionView)) → later ≡ insert_entry nat_cmp es c s
      → s.endpoint ≡ new_endpoint text_protocol → s.out ≡ []
      → map numbered_of later ≡ with_some c
      (effect server_machine rows clock caches Open (numbered c (map numbered_of es))).connection (map numbered_of es)
  opened-connections s later e f g =
      let fresh : connection_of s ≡ record { endpoint = new_endpoint text_protocol; out = [] } = cc in
      ap (map numbered_of) e ∙ with_numbered-insert c s es ∙ ap (λ q. with_numbered c q (map numbered_of es)) fresh
      ∙ sym (ap (λ o. with_some c (effect server_machine rows clock caches Open o).connection (map numbered_of es)) nothing)

  pub absent-caches : (x : HappeningCode) → (x ≡ IsOpen → ⊥)
      → caches ≡ (effect server_machine rows clock caches (happening_of x) (numbered c (map numbered_of es))).caches
  absent-caches x ne =
      sym (ap (λ o. (effect server_machine rows clock caches (happening_of x) o).caches) nothing
      ∙ ap (λ (d : Effect server_machine). d.caches) (effect-absent rows clock caches x ne))

  pub absent-connections : (x : HappeningCode) (later : List (ℕ × SessionView)) → later ≡ es → (x ≡ IsOpen → ⊥)
      → map numbered_of later ≡ with_some c
      (effect server_machine rows clock caches (happening_of x) (numbered c (map numbered_of es))).connection
      (map numbered_of es)
  absent-connections x later e ne =
      ap (map numbered_of) e
      ∙ sym (ap (λ o. with_some c (effect server_machine rows clock caches (happening_of x) o).connection (map numbered_of es))
      nothing
      ∙ ap (λ (d : Effect server_machine). with_some c d.connection (map numbered_of es))
      (effect-absent rows clock caches x ne))
