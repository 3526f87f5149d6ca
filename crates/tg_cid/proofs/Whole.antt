-- What `from_bytes` answers, by what `from_prefix` did.
use Rattle.std.proofs.Common.{◌≡◌, ℕ, ◌+◌, ◌<◌, ◌≤◌, ◌⊎◌, List, [], length, take, drop, Result, Ok, Err, IfOk, IfErr, refl, ap, sym, ◌∙◌, subst, inl, inr, arith}
use Rattle.std.proofs.lemmas.List.{append-nil, length-append, length-drop, length-take-le, take-append-drop, take_all}
use Rattle.tg_cid.specs.Cid.{CidParts}
use Rattle.tg_cid.specs.Faults.{HasPrefixCause, HasBytesCause, IsTrailed}
use Rattle.tg_cid.specs.Spelling.{CidBytes}
use Rattle.tg_cid.specs.declared.fault.CidFault.{CidFault}
use Rattle.tg_cid.specs.declared.fault.CidFault.TheVariants as faults
use Rattle.tg_cid.proofs.Prefix.{Answers}

-- the clauses of `from_bytes`
pub record WholeAnswers (bytes : List ℕ) (r : Result CidParts CidFault) : Type 0 where
  pub found : IfOk r (λ cid. CidBytes cid bytes)
  pub only : (cid : CidParts) → CidBytes cid bytes → r ≡ Ok cid
  pub cause : IfErr r (HasBytesCause bytes)
  pub given : (fault : CidFault) → HasBytesCause bytes fault → r ≡ Err fault

as_whole : (bytes : List ℕ) (fault : CidFault) → HasPrefixCause bytes fault → HasBytesCause bytes fault
as_whole bytes faults.BadText h = h
as_whole bytes (faults.BadVersion n) h = h
as_whole bytes (faults.BadCodec n) h = h
as_whole bytes (faults.BadHash n) h = h
as_whole bytes (faults.BadLength n) h = h
as_whole bytes (faults.Trailing n) h = absurd h
as_whole bytes (faults.Short n) h = h
as_whole bytes (faults.BadVarint n) h = h
as_whole bytes faults.OutOfMemory h = h

-- more bytes, or a cause at the front
causes : (bytes : List ℕ) (fault : CidFault) → HasBytesCause bytes fault
    → ((at : ℕ) × (fault ≡ faults.Trailing at) × IsTrailed bytes at) ⊎ HasPrefixCause bytes fault
causes bytes faults.BadText h = inr h
causes bytes (faults.BadVersion n) h = inr h
causes bytes (faults.BadCodec n) h = inr h
causes bytes (faults.BadHash n) h = inr h
causes bytes (faults.BadLength n) h = inr h
causes bytes (faults.Trailing n) h = inl (n, refl, h)
causes bytes (faults.Short n) h = inr h
causes bytes (faults.BadVarint n) h = inr h
causes bytes faults.OutOfMemory h = inr h

not_ok : (T : Type 0) (fault : CidFault) (x : T) → ◌≡◌ {A = Result T CidFault} (Err fault) (Ok x) → ⊥
not_ok T fault x e = cc

not_err : (T : Type 0) (fault : CidFault) (x : T) → ◌≡◌ {A = Result T CidFault} (Ok x) (Err fault) → ⊥
not_err T fault x e = cc

pub same_found : (a b : CidParts) (m n : ℕ) → ◌≡◌ {A = Result (CidParts × ℕ) CidFault} (Ok (a, m)) (Ok (b, n)) → (a ≡ b) × (m ≡ n)
same_found a b m n e =
    let pairs : ◌≡◌ {A = CidParts × ℕ} (a, m) (b, n) = cc in
    (ap (λ (p : CidParts × ℕ). p.0) pairs, ap (λ (p : CidParts × ℕ). p.1) pairs)

same_fault : (T : Type 0) (a b : CidFault) → ◌≡◌ {A = Result T CidFault} (Err a) (Err b) → a ≡ b
same_fault T a b e = cc

pub whole_err : (bytes : List ℕ) (fault : CidFault) → Answers bytes (Err fault) → WholeAnswers bytes (Err fault)
whole_err bytes fault p = record {
  found = tt;
  only = λ cid h. absurd (not_ok _ fault _ (p.only cid bytes [] h (sym (append-nil bytes))));
  cause = as_whole bytes fault p.cause;
  given = λ f h. elim (causes bytes f h) [
    | inl t ↦ absurd (not_ok _ fault _ (p.only t.2.cid t.2.front t.2.rest t.2.spelled t.2.whole))
    | inr k ↦ ap Err (same_fault _ fault f (p.given f k))
  ];
}

pub whole_trailed : (bytes : List ℕ) (cid : CidParts) (size : ℕ) → Answers bytes (Ok (cid, size)) → size < length bytes
    → WholeAnswers bytes (Err (faults.Trailing size))
whole_trailed bytes cid size p less =
    let trailed : IsTrailed bytes size = record {
      cid = cid;
      front = take size bytes;
      rest = drop size bytes;
      spelled = p.found.1;
      whole = sym (take-append-drop size bytes);
      at_is = sym (length-take-le size bytes (omega arith));
      more = omega (arith, length-drop size bytes);
    } in
    record {
      found = tt;
      only = λ other h.
          let end : size ≡ length bytes = (same_found cid other size (length bytes) (p.only other bytes [] h (sym (append-nil bytes)))).1 in
          absurd (omega arith);
      cause = trailed;
      given = λ f h. elim (causes bytes f h) [
        | inl t ↦
            let end : size ≡ length t.2.front = (same_found cid t.2.cid size (length t.2.front) (p.only t.2.cid t.2.front t.2.rest t.2.spelled t.2.whole)).1 in
            ap (λ (n : ℕ). Err (faults.Trailing n)) (end ∙ sym t.2.at_is) ∙ ap Err (sym t.1)
        | inr k ↦ absurd (not_err _ f _ (p.given f k))
      ];
    }

pub whole_ok : (bytes : List ℕ) (cid : CidParts) (size : ℕ) → Answers bytes (Ok (cid, size)) → length bytes ≤ size → WholeAnswers bytes (Ok cid)
whole_ok bytes cid size p all = record {
  found = subst (CidBytes cid) (take_all size bytes all) p.found.1;
  only = λ other h. ap Ok (same_found cid other size (length bytes) (p.only other bytes [] h (sym (append-nil bytes)))).0;
  cause = tt;
  given = λ f h. elim (causes bytes f h) [
    | inl t ↦
        let end : size ≡ length t.2.front = (same_found cid t.2.cid size (length t.2.front) (p.only t.2.cid t.2.front t.2.rest t.2.spelled t.2.whole)).1 in
        let long : length bytes ≡ length t.2.front + length t.2.rest = ap length t.2.whole ∙ length-append t.2.front t.2.rest in
        let more : 0 < length t.2.rest = t.2.more in
        absurd (omega arith)
    | inr k ↦ absurd (not_err _ f _ (p.given f k))
  ];
}
