-- The same query for each block, also those that no section of it brings.
use Rattle.std.proofs.Common.{List, [], ap, inl, refl, sym, true, ◌∙◌, ◌∷◌, ◌≡◌}
use Rattle.tg_cid.specs.Cid.{CidParts}
use Rattle.tg_model.specs.Dag.{Section}
use Rattle.tg_model.specs.Queries.{QueryParts}
use Rattle.tg_model.specs.Traversal.{opened_list, sent}
use Rattle.tg_model.specs.declared.queries.Form.TheVariants as forms
use Rattle.tg_model_laws.specs.TakenBlocks.{opened_by}
use Rattle.tg_model_laws.specs.Stages.{Given}
use Rattle.tg_model_laws.specs.Tasks.{Task}
use Rattle.tg_model_laws.specs.Verified.{Verified}

abbrev pub each_asked : QueryParts → QueryParts
each_asked q = record q { form = forms.Raw; dups = true }

-- each section is sent
all_sent : (q : QueryParts) (sections : List Section) → sent (each_asked q) sections ≡ sections
all_sent q [] = refl
all_sent q (section ∷ sections) = ap (λ (all : List Section). section ∷ all) (all_sent q sections)

-- what was taken of the query was opened for this one, whose sections are those of the opened places
pub each_verified : (q : QueryParts) (sections : List Section) (given : Given) (tasks : List (Task CidParts)) → Verified q sections given tasks
    → Verified (each_asked q) (opened_by given) given tasks
each_verified q sections given tasks h = record {
  sent_are = all_sent q (opened_by given);
  received = λ section held. inl held;
  one_each = tt;
  opening = λ nodes e.
      let opens = h.opening nodes e in
      record { s = opens.s; stage = opens.stage; opened = opens.opened; root = opens.root; right = opens.right; way = opens.way };
  beside = λ d rest checked root list.
      let beside = h.beside d rest checked root list in
      record { nodes = beside.nodes; same = beside.same; stage = beside.stage; parts = beside.parts };
  opens = λ d rest other list. (rest, sym (all_sent q (opened_list q d)) ∙ list);
}
