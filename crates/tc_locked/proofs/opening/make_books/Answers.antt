use Rattle.std.proofs.Common.{rules, length, Some, sym, ap, ◌∙◌, subst, arith}
use Rattle.std.proofs.lemmas.Iterator.Adapters.{YieldsList-from_vec}
use Rattle.std.proofs.lemmas.Iterator.Consumers.{YieldsList-turn}
use Rattle.tc_model.specs.Connection.{user_at}
use Rattle.tc_plain.specs.UserCache.{UserCache}
use Rattle.tc_fresh.specs.Beginning.{IsEmptyCache}
use Rattle.tc_locked.specs.Books.{BookState}
use Rattle.tc_locked.proofs.EmptyCaches.{begins_next, begins_empty}
use Rattle.tc_locked.proofs.opening.make_books.Goals as goal

pub open-requires : goal.open-requires
open-requires g c =
    let t = YieldsList-turn (YieldsList-from_vec {s = c.into_iter-cache-iterator.result} c.args.caches.items (search rules)
    (search rules)) c.loop-cache.yielded c.loop-cache.cache-iterator c.loop-cache.yielded_by c.next.result c.next.new.self
    c.in-Some.cache c.in-Some.is c.next.ensures.steps in
    let at = begins_next g.C.Cache.settled c.args.caches.items g.N.Naming.terms.begins
    (length c.loop-cache.yielded) c.loop-cache.number c.in-Some.cache c.requires.begins.0 c.loop-cache.invariant.2 t in
    record {
      empty = begins_empty g.N.Naming.terms.begins c.loop-cache.number (g.C.Cache.settled c.in-Some.cache) c.requires.begins.1 at;
    }

pub numbered-user-requires : goal.numbered-user-requires
numbered-user-requires g c =
    let t = YieldsList-turn (YieldsList-from_vec {s = c.into_iter-cache-iterator.result} c.args.caches.items (search rules)
    (search rules)) c.loop-cache.yielded c.loop-cache.cache-iterator c.loop-cache.yielded_by c.next.result c.next.new.self
    c.in-Some.cache c.in-Some.is c.next.ensures.steps in
    let few = c.requires.few in
    let within = t.0 in
    let number = c.loop-cache.invariant.2 in
    record { few = omega arith }

pub make_book-requires-clause-begins : goal.make_book-requires-clause-begins
make_book-requires-clause-begins g c =
    let t = YieldsList-turn (YieldsList-from_vec {s = c.into_iter-cache-iterator.result} c.args.caches.items (search rules)
    (search rules)) c.loop-cache.yielded c.loop-cache.cache-iterator c.loop-cache.yielded_by c.next.result c.next.new.self
    c.in-Some.cache c.in-Some.is c.next.ensures.steps in
    let at = begins_next g.C.Cache.settled c.args.caches.items g.N.Naming.terms.begins
    (length c.loop-cache.yielded) c.loop-cache.number c.in-Some.cache c.requires.begins.0 c.loop-cache.invariant.2 t in
    let opening = ap (λ (b : BookState). b.opening) c.in_ok-book.ensures in
    let user = ap (user_at g.N.Naming.terms.begins) c.numbered-user.ensures in (
      user ∙ at ∙ ap (λ (k : UserCache). Some k) (sym opening),
      subst IsEmptyCache (sym opening)
          (begins_empty g.N.Naming.terms.begins c.loop-cache.number (g.C.Cache.settled c.in-Some.cache) c.requires.begins.1 at),
    )
