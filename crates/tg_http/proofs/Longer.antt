-- More bytes behind those that were answered.
use Rattle.std.proofs.Common.{◌≡◌, ℕ, ◌≤◌, List, ◌++◌, length, take, drop, refl, sym, ap, ◌∙◌, inl, inr, append_assoc, arith}
use Rattle.std.proofs.lemmas.List.{take_at, take-append-le, take-append-drop, length-append}
use Rattle.tg_http.specs.declared.fault.HttpFault.{HttpFault}
use Rattle.tg_http.specs.declared.fault.HttpFault.TheVariants as faults
use Rattle.tg_http.specs.HeadText.{BeginsHead}
use Rattle.tg_http.specs.Heads.{HasHeadCause, HeadStays, IsNoHead}

pub longer_head : (bytes more text : List ℕ) (count : ℕ) → BeginsHead bytes text count → BeginsHead (bytes ++ more) text count
longer_head bytes more text count b = record {
  text_is = b.text_is;
  rest = b.rest ++ more;
  whole = ap (λ (s : List ℕ). s ++ more) b.whole ∙ append_assoc text b.rest more;
  fits = b.fits;
}

shorter_head : (bytes more text : List ℕ) (count : ℕ) → 16384 ≤ length bytes → BeginsHead (bytes ++ more) text count → BeginsHead bytes text count
shorter_head bytes more text count long b =
    let begun : take (length text) bytes ≡ text =
    sym (take-append-le (length text) bytes more (omega (arith, b.fits))) ∙ ap (take (length text)) b.whole ∙ take_at text b.rest (length text) refl in
    record {
      text_is = b.text_is;
      rest = drop (length text) bytes;
      whole = sym (take-append-drop (length text) bytes) ∙ ap (λ (s : List ℕ). s ++ drop (length text) bytes) begun;
      fits = b.fits;
    }

pub longer_cause : (none : List ℕ → Type 0) (bytes more : List ℕ) (fault : HttpFault) → HasHeadCause none bytes fault → HasHeadCause none (bytes ++ more) fault
longer_cause none bytes more faults.HeadLimit (inl few) =
    inl (omega (arith, few.0, length-append bytes more), λ text count b. few.1 text count (shorter_head bytes more text count few.0 b))
longer_cause none bytes more faults.HeadLimit (inr many) = inr (many.0, many.1, longer_head bytes more many.0 many.1 many.2, many.3)
longer_cause none bytes more faults.BadHead h = (h.0, h.1, longer_head bytes more h.0 h.1 h.2, h.3, h.4)
longer_cause none bytes more faults.BadFraming h = h
longer_cause none bytes more faults.OutOfMemory h = h

-- heads of any grammar
pub stays : {Tree : Type 0} (Reads : List ℕ → Tree → List ℕ → Type 0) → HeadStays Reads
stays Reads = (
  λ bytes more text tree i. record { count = i.count; begins = longer_head bytes more text i.count i.begins; few = i.few; reads = i.reads },
  λ bytes more fault h. longer_cause (IsNoHead Reads) bytes more fault h,
)
