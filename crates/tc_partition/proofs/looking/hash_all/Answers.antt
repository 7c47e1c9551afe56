use Rattle.std.proofs.Common.{ℕ, List, ◌∷◌, ◌++◌, [], ◌+◌, length, take, get_or, arith, sym, ◌∙◌, subst, ap}
use Rattle.std.proofs.lemmas.List.{take_more, length-append}
use Rattle.tc_item.specs.KeyHash.{hash}
use Rattle.tc_partition.specs.Seeking.{AreHashed}
use Rattle.tc_partition.proofs.OneLook.{hashed_push}
use Rattle.tc_partition.proofs.looking.hash_all.Goals as goal

pub push_reserved-requires : goal.push_reserved-requires
push_reserved-requires c = omega (arith, c.loop-key.invariant.room, c.loop-key-test.true)

pub loop-key-preserved : goal.loop-key-preserved
loop-key-preserved c =
    let i = c.loop-key.key-index in
    let keys = c.args.keys.now in
    let key = c.key-item.result in
    let before = c.loop-key.all.items in
    record {
      hashed =
          subst (λ (ws : List ℕ). AreHashed (take (i + 1) keys) ws) (sym c.push_reserved.ensures.items)
          (subst (λ ks. AreHashed ks (before ++ c.fnv_hash.result ∷ [])) (sym (take_more keys i key c.loop-key-test.true))
          (hashed_push (take i keys) before (get_or keys i key) c.fnv_hash.result c.loop-key.invariant.hashed
          (c.fnv_hash.ensures ∙ ap hash c.key-item.is)));
      room =
          omega (
            arith,
            c.loop-key.invariant.room,
            c.push_reserved.ensures.capacity,
            ap length c.push_reserved.ensures.items,
            length-append before (c.fnv_hash.result ∷ []),
          );
    }
