-- An answer is that of a terminal.
use Rattle.std.proofs.Common.{List, Some, inl, inr, refl, ℕ, ◌≡◌}
use Rattle.tg_model.specs.Answer.{answer_at}
use Rattle.tg_model.specs.Dag.{Dag}
use Rattle.tg_model.specs.Lookup.{LookupEnd, lookup_path}
use Rattle.tg_model.specs.Lookup as lookups
use Rattle.tg_model.specs.Queries.{QueryParts}
use Rattle.tg_verify.specs.Absences.{AnsweredLeadsThere}

is_found : (q : QueryParts) (end : LookupEnd) (text : List ℕ) → answer_at q end ≡ Some text → (t : Dag) × (end ≡ lookups.found t)
is_found q (lookups.found t) text e = (t, refl)
is_found q (lookups.not_there i) text e = absurd (cc e)
is_found q (lookups.not_folder i) text e = absurd (cc e)

pub leads_there : AnsweredLeadsThere
leads_there q d sections written (inl e) = inl (is_found q (lookup_path q.path d) written e)
leads_there q d sections written (inr pair) = inr pair
