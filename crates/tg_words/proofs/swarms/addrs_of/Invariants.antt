use Rattle.std.proofs.Common.{◌≡◌, map, string_bytes, take, All, Global}
use Rattle.tg_query.specs.Requests.{IsAddr}
use Rattle.tg_words.specs.Operands.{texts_of}
use Rattle.tg_words.proofs.swarms.addrs_of.Given as goal

-- the addresses so far are the words so far
abbrev pub invariant-loop-word : goal.invariant-loop-word
invariant-loop-word l =
    (map (string_bytes {Z = Global}) l.addrs.items ≡ texts_of (take l.word-index l.words)) × All IsAddr (texts_of (take l.word-index l.words))
