use Rattle.std.specs.Prelude.{All, vec_len, ◌^◌}
use Rattle.std.proofs.Common.{◌≡◌, ◌<◌, length, sym, ap, ◌∙◌, subst, arith}
use Rattle.std.proofs.lemmas.List.{length-map}
use Rattle.tc_fresh.specs.Beginning.{fresh_cache, IsEmptyCache}
use Rattle.tc_fresh.proofs.Empty.{fresh_caches-empty}
use Rattle.tc_locked.proofs.hall.Hall.new.Goals as goal

pub make_books-requires-clause-begins : goal.make_books-requires-clause-begins
make_books-requires-clause-begins g c = (
  c.requires.caches ∙ sym c.requires.begins,
  subst (All IsEmptyCache) (sym c.requires.begins) (fresh_caches-empty c.args.users.now),
)

pub invariant_of-room : goal.invariant_of-room
invariant_of-room g c =
    let count = c.count_users-users.ensures in
    let begins : length g.N.Naming.terms.begins ≡ length c.args.users.now =
    ap length c.requires.begins ∙ length-map c.args.users.now fresh_cache in (
      c.in_ok-room.ensures.len,
      c.in_ok-room.ensures.items,
      omega (arith, count.users, begins, c.in_ok-room.ensures.capacity),
    )

pub invariant_of-hall : goal.invariant_of-hall
invariant_of-hall g c =
    let count = c.count_users-users.ensures in
    let made = c.in_ok-make_books.ensures.books in
    let begins : length g.N.Naming.terms.begins ≡ length c.args.users.now =
    ap length c.requires.begins ∙ length-map c.args.users.now fresh_cache in
    let all : vec_len c.make_books.new.out ≡ length g.N.Naming.terms.begins =
    omega (arith, made, count.users, count.caches, begins) in
    let few : vec_len c.make_books.new.out < 2 ^ 32 = omega (arith, made, count.caches, count.most) in (
      c.opened.view_is ∙ c.requires.name,
      c.opened.invariant.1,
      c.requires.journal.0,
      c.requires.keeps,
      c.requires.journal.1,
      c.requires.seats.0,
      c.requires.seats.1,
      all,
      few,
    )
