use Rattle.std.proofs.Common.{string_bytes, Global, refl, sym, true≢false}
use Rattle.tg_words.proofs.SwarmAnswers.{addr_at, one_addr_more}
use Rattle.tg_words.proofs.swarms.addrs_of.Goals as goal

pub returns-then-not-is_addr-clause-only : goal.returns-then-not-is_addr-clause-only
returns-then-not-is_addr-clause-only c =
    λ all. absurd (true≢false (sym (c.if-not-is_addr.ensures.1 (addr_at c.args.words.now c.loop-word.word-index _ c.loop-word-test.true all))))

pub loop-word-preserved : goal.loop-word-preserved
loop-word-preserved c =
    one_addr_more (string_bytes {Z = Global}) c.args.words.now c.loop-word.word-index _ c.loop-word.addrs.items _ _ c.loop-word-test.true c.loop-word.invariant
    c.in_ok-push.ensures.items c.in_ok-from_str.ensures.ok (c.if-not-is_addr.ensures.0 refl)
