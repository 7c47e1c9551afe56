use Rattle.std.specs.Prelude.{MatchOption, option_map, option_to_list}
use Rattle.std.specs.Borrow.{Bor}
use Rattle.std.specs.Option.{option_copied}
use Rattle.std.proofs.Common.{◌≡◌, [], ◌∷◌, ◌++◌, Option, Some, None, sym, ◌∙◌, ap, subst}
use Rattle.tc_plain.specs.declared.shared.entry.Entry.{Entry}
use Rattle.tc_plain.specs.Entries.{hit_of}
use Rattle.tc_partition.specs.LiveSlots.{live_of}
use Rattle.tc_partition.specs.Deferred.{peeked}
use Rattle.tc_partition.specs.Seeking.{SeekSlots}
use Rattle.tc_partition.proofs.looking.seek_one.Goals as goal

-- what a reference shows
copied_by : (r : Option (Bor Entry)) (o : Option Entry) → MatchOption r (o ≡ None) (λ e. o ≡ Some e.now) → option_copied r ≡ o
copied_by None o h = sym h
copied_by (Some e) o h = sym h

pub returns-clause-hits : goal.returns-clause-hits
returns-clause-hits c =
    let key = c.args.key.now in
    c.in_ok-hits.ensures
    ∙ ap (λ o. option_to_list (option_map hit_of o))
    (copied_by c.held_at.result (peeked c.args.moment key (live_of c.args.live.now))
    (c.held_at.ensures c.args.moment key c.seek_from-place.ensures))

pub returns-clause-seen : goal.returns-clause-seen
returns-clause-seen c =
    let one = c.push_reserved.ensures.items ∙ ap (λ xs. xs ++ c.seek_from-place.result ∷ []) c.new-places.ensures.items in
    subst (λ places. SeekSlots c.args.moment (c.args.key.now ∷ []) places c.args.live.now) (sym one)
    (c.seek_from-place.ensures, tt)
