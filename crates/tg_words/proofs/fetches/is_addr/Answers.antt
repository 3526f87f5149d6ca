use Rattle.std.proofs.Common.{◌≡◌, rules, tests, sym, ap, ◌∙◌}
use Rattle.std.specs.Char.{is_ascii_graphic}
use Rattle.std.specs.List.{list_all}
use Rattle.std.proofs.lemmas.Iterator.{YieldsList-from_slice}
use Rattle.std.proofs.lemmas.Iterator.Search.{all_from_yields_List}
use Rattle.tg_words.proofs.Addrs.{addr_by, cut_at, no_addr}
use Rattle.tg_words.proofs.fetches.is_addr.Goals as goal

pub returns-in-Some : goal.returns-in-Some
returns-in-Some c =
    let all : c.all.result ≡ list_all is_ascii_graphic c.as_bytes-bytes.result.now =
    all_from_yields_List is_ascii_graphic _ _ _ c.all.ensures.ran (YieldsList-from_slice c.as_bytes-bytes.result.now cc) (λ x b q k. search (rules, tests)) in
    addr_by c.args.word.now c.in-Some.field-0-0.now c.in-Some.port.now _
    (search (rules, tests)) (search (rules, tests)) (sym (ap (list_all is_ascii_graphic) c.as_bytes-bytes.ensures.value) ∙ sym all ∙ c.if-not-all.false)
    (cut_at c.args.word.now c.in-Some.field-0-0.now c.in-Some.port.now c.in-Some.ensures.cases) c.is_port.ensures

pub returns-in-None : goal.returns-in-None
returns-in-None c = ((λ no. absurd (cc)), λ addr. absurd (no_addr c.args.word.now c.in-None.ensures.cases addr))
