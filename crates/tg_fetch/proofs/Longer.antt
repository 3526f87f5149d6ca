-- A refusal in a front of a piece is one in the piece.
use Rattle.std.proofs.Common.{◌≡◌, ℕ, true, false, List, ◌++◌, ap, ◌∙◌, append_assoc, length-append, arith}
use Rattle.tg_fetch.specs.Replies.{IsRefused, RefusedBy, at_end, at_head, bad_head, breaks, cut_body, cut_head, in_body, memory, past}
use Rattle.tg_fetch.specs.declared.fault.FetchFault.{FetchFault}
use Rattle.tg_model.specs.Dag.{Section}
use Rattle.tg_model.specs.LimitNumbers.{LimitNumbers}
use Rattle.tg_model.specs.Queries.{QueryParts}
use Rattle.tg_streams.specs.Streams.{Output}

false_true : false ≡ true → ⊥
false_true e = cc

module _ (tail : List ℕ) where
  module _ (q : QueryParts) (limits : LimitNumbers) (heard unheard : List ℕ) (sections : List Section) (text : List ℕ) (fault : FetchFault) where
    pub refused_longer : RefusedBy q limits heard unheard false sections text fault → RefusedBy q limits heard (unheard ++ tail) false sections text fault
    refused_longer (bad_head f h s t) = bad_head f h s t
    refused_longer (cut_head f e u o s t) = absurd (false_true e)
    refused_longer (at_head r s t) = at_head r s t
    refused_longer (in_body r) = in_body r
    refused_longer (at_end r) = at_end r
    refused_longer (breaks f b) = breaks f (record {
      head = b.head;
      rest = b.rest;
      final = b.final;
      framed = b.framed;
      given = b.given;
      front = b.front;
      body = b.body;
      looked = b.looked;
      more = b.more ++ tail;
      whole = ap (λ (l : List ℕ). l ++ tail) b.whole ∙ append_assoc b.looked b.more tail;
      few = b.few;
      breaks = b.breaks;
    })
    refused_longer (cut_body f e u b) = absurd (false_true e)
    refused_longer (past f p) = past f (record { heard_is = p.heard_is; some = omega (arith, length-append unheard tail, p.some); is_open = p.is_open })
    refused_longer (memory f o) = memory f o

-- so is one that says where in it
abbrev pub refused_front : (q : QueryParts) (limits : LimitNumbers) (heard front tail piece written : List ℕ) (out : Output) (fault : FetchFault) → piece ≡ front ++ tail
    → IsRefused q limits heard front false written out fault → IsRefused q limits heard piece false written out fault
refused_front q limits heard front tail piece written out fault e r = record {
  front = r.front;
  more = r.more ++ tail;
  whole = e ∙ (ap (λ (l : List ℕ). l ++ tail) r.whole ∙ append_assoc r.front r.more tail);
  text = r.text;
  put = r.put;
  sections = r.sections;
  within = r.within;
  refused = refused_longer tail q limits (heard ++ r.front) r.more r.sections (written ++ r.text) fault r.refused;
  sound = r.sound;
}
