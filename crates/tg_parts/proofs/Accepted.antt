-- What a text that was accepted in a connection says beside all connections.
use Rattle.std.proofs.Common.{Contains, List, [], arith, inl, inr, length, subst, suc, sym, zero, ℕ, ◌<◌, ◌∷◌, ◌≡◌}
use Rattle.std.proofs.lemmas.List.Elements.{Contains-append_left, Contains-append_right}
use Rattle.std.specs.Prelude.{slice_index_or}
use Rattle.tg_model.specs.Dag.{Dag, Section, root_cid}
use Rattle.tg_model.specs.Queries.{QueryParts}
use Rattle.tg_model.specs.Sound.{IsSound}
use Rattle.tg_parts.specs.Connections.{Connection, WasAccepted, all_sections}
use Rattle.tg_parts.specs.PartLaws.{AcceptedStay}
use Rattle.tg_verify.specs.Sound.{IsItsAnswer}

-- a section of one of the connections is one of all
among_all : (connections : List Connection) (connection : Connection) (section : Section) (k : ℕ) → k < length connections
    → slice_index_or connections k connection ≡ connection → Contains connection.sections section
    → Contains (all_sections connections) section
among_all [] connection section k below at held = absurd (omega (arith, below))
among_all (first ∷ others) connection section zero below at held =
    Contains-append_left first.sections (all_sections others) section (subst (λ (c : Connection). Contains c.sections section) (sym at) held)
among_all (first ∷ others) connection section (suc k) below at held =
    Contains-append_right first.sections (all_sections others) section (among_all others connection section k (omega (arith, below)) at held)

-- so what is said beside one of them is said beside all
stays : (connections : List Connection) (connection : Connection) (q : QueryParts) (text : List ℕ) (d : Dag) → Contains connections connection
    → IsItsAnswer q d connection.sections text → IsItsAnswer q d (all_sections connections) text
stays connections connection q text d among (inl is) = inl is
stays connections connection q text d among (inr pair) = inr (record {
  received = pair.received;
  held = pair.held;
  is_received = among_all connections connection pair.received among.0 among.1 among.2 pair.is_received;
  is_held = pair.is_held;
  same_cid = pair.same_cid;
  kind = pair.kind;
  differ = pair.differ;
  same_hash = pair.same_hash;
})

-- the text is each sound DAG's answer, or there is a pair among all that was received
pub accepted_is : (connections : List Connection) (q : QueryParts) (text : List ℕ) (d : Dag) → WasAccepted connections q text → IsSound d
    → root_cid d ≡ q.root → IsItsAnswer q d (all_sections connections) text
accepted_is connections q text d a sound root = stays connections a.connection q text d a.among (a.answer d sound root)

pub accepted_stay : AcceptedStay
accepted_stay connections more q text a = record {
  connection = a.connection;
  among = Contains-append_left connections more a.connection a.among;
  query_is = a.query_is;
  answer = a.answer;
}
