use Rattle.std.proofs.Common.{rules, ◌∙◌}
use Rattle.std.proofs.lemmas.List.Sorted.{answers_always, ranks_by}
use Rattle.std.specs.Cmp.Lexicographic.{nat_list_cmp_total}
use Rattle.tg_listing.proofs.Orders.{less_name, names_sorted}
use Rattle.tg_listing.proofs.listing.sorted_by_name.Goals as goal
use Rattle.tg_listing.specs.declared.line.ListingLine.{ListingLine}

pub returns : goal.returns
returns c = λ entries same.
    let order = ranks_by nat_list_cmp_total (λ (line : ListingLine). line.name) in
    let answers = answers_always _ _ _ (λ f a r f' k. search rules) in
    names_sorted entries c.into_vec-sorted.result.items c.sort_by.new.self.items order (c.in_ok-sort_by.ensures.sorted less_name order answers) (c.in_ok-sort_by.ensures.stable less_name order answers)
    (c.into_vec-sorted.ensures ∙ same)
