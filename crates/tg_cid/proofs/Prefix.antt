-- What `from_prefix` answers: a CIDv0, a CIDv1, or the one cause of a refusal.
use Rattle.std.proofs.Common.{◌≡◌, ℕ, get_or, ◌+◌, ◌<◌, ◌≤◌, ◌⊎◌, List, [], ◌∷◌, ◌++◌, length, take, drop, All, Ok, Err, IfOk, IfErr, refl, ap, ap₂, sym, ◌∙◌, subst, inl, inr, arith}
use Rattle.std.proofs.lemmas.List.{length-append, length-drop, length-take-le, take_at, append_assoc}
use Rattle.std.proofs.lemmas.List.Elements.{All-take, All-drop}
use Rattle.std.proofs.lemmas.Result.{MatchResult-weaker}
use Rattle.tg_varint.specs.Varint.{VarintSpelling, PassesNine, EndsInZero}
use Rattle.tg_varint.specs.Laws.{SpellingLaws, Begins}
use Rattle.tg_varint.specs.Laws.VarintFront.{spelled, too_long, not_shortest}
use Rattle.tg_cid.specs.Cid.{CidParts}
use Rattle.tg_cid.specs.Faults.{MayBegin, Follows, IsVersionZero, HasPrefixCause, HasBadVarint}
use Rattle.tg_cid.specs.Reading.{Answer, DigestThen, ReadsAsOne}
use Rattle.tg_cid.specs.Spelling.{CidBytes, CidV1Bytes, codec_code, hash_code}
use Rattle.tg_cid.specs.declared.cid.Codec.TheVariants.{DagPb}
use Rattle.tg_cid.specs.declared.cid.HashKind.TheVariants.{Sha256}
use Rattle.tg_cid.specs.declared.fault.CidFault.{CidFault}
use Rattle.tg_cid.specs.declared.fault.CidFault.TheVariants as faults
use Rattle.tg_cid.proofs.Places.{stand, rest_is}
use Rattle.tg_cid.proofs.Once.{one_digest, one_answer}
use Rattle.tg_cid.proofs.Told.{Told, told_one}
use Rattle.tg_cid.proofs.Causes.{bad_version, bad_codec, bad_hash, bad_size, short_digest, no_number, equal_parts, found_one}

-- the answer that bytes tell
pub data Reads (bytes : List ℕ) (r : Answer) : Type 0 where
  one : (IsVersionZero bytes → ⊥) → ReadsAsOne bytes r → Reads bytes r
  lone : bytes ≡ 0x12 ∷ [] → r ≡ Err (faults.Short 1) → Reads bytes r
  zero_version : (rest : List ℕ) → bytes ≡ 0x12 ∷ 0x20 ∷ rest → DigestThen 0 DagPb Sha256 32 bytes 2 r → Reads bytes r

-- the spelling of 1
pub one_is : SpellingLaws → (spelling : List ℕ) → VarintSpelling 1 spelling → spelling ≡ 1 ∷ []
one_is laws spelling v = laws.one_spelling 1 spelling (1 ∷ []) v (laws.one_byte 1 (omega arith))

differ : (m n : ℕ) → m ≡ 1 → n ≡ 0x12 → m ≡ n → ⊥
differ m n p q e = omega arith

-- bytes that begin with the varint of 1 begin with the byte 1
pub starts_one : SpellingLaws → (bytes : List ℕ) (number : ℕ) (numbers : List ℕ) (at : ℕ) (rest : List ℕ) → number ≡ 1 → Follows (number ∷ numbers) bytes at rest
    → get_or bytes 0 0 ≡ 1
starts_one laws bytes number numbers at rest e f =
    let v = f.spelled in
    let spelling : v.0 ≡ 1 ∷ [] = one_is laws v.0 (subst (λ (n : ℕ). VarintSpelling n v.0) e v.3) in
    let whole : bytes ≡ v.0 ++ (v.1 ++ rest) = f.whole ∙ (ap (λ l. l ++ rest) v.2 ∙ append_assoc v.0 v.1 rest) in
    ap (λ (l : List ℕ). get_or l 0 0) (whole ∙ ap (λ l. l ++ (v.1 ++ rest)) spelling)

-- such bytes are no CIDv0
begins_one : SpellingLaws → (bytes : List ℕ) (number : ℕ) (numbers : List ℕ) (at : ℕ) (rest : List ℕ) → number ≡ 1 → Follows (number ∷ numbers) bytes at rest
    → IsVersionZero bytes → ⊥
begins_one laws bytes number numbers at rest e f z = differ 1 0x12 refl refl (sym (starts_one laws bytes number numbers at rest e f) ∙ elim z.begins [
  | inl h ↦ ap (λ (l : List ℕ). get_or l 0 0) h
  | inr h ↦ ap (λ (l : List ℕ). get_or l 0 0) h
])

-- those of a CIDv1 don't begin with 0x12
pub one_begins : SpellingLaws → (cid : CidParts) (bytes rest : List ℕ) → CidV1Bytes cid bytes → bytes ≡ 0x12 ∷ rest → ⊥
one_begins laws cid bytes rest h e =
    let f : Follows (1 ∷ codec_code cid.codec ∷ hash_code cid.hash ∷ length cid.digest ∷ []) bytes (length h.head) cid.digest =
    record { front = h.head; whole = h.whole; at_is = refl; spelled = h.numbers } in
    differ 1 0x12 refl refl (sym (starts_one laws bytes 1 _ (length h.head) cid.digest refl f) ∙ ap (λ (l : List ℕ). get_or l 0 0) e)

-- bytes that are read as a CIDv0 begin with the spelling of 18
first_spelled : SpellingLaws → (bytes : List ℕ) → IsVersionZero bytes → Begins bytes (spelled 0x12 (0x12 ∷ []))
first_spelled laws bytes z = elim z.begins [
  | inl h ↦ ([], h, laws.one_byte 0x12 (omega arith))
  | inr h ↦ (0x20 ∷ z.rest, h, laws.one_byte 0x12 (omega arith))
]

bad_with : SpellingLaws → (bytes numbers : List ℕ) (at : ℕ) (rest : List ℕ) → MayBegin numbers → Follows numbers bytes at rest
    → PassesNine rest ⊎ EndsInZero rest → IsVersionZero bytes → ⊥
bad_with laws bytes [] at rest begins f bad z =
    let same : bytes ≡ rest = f.whole ∙ ap (λ l. l ++ rest) f.spelled in
    let here : Begins rest (spelled 0x12 (0x12 ∷ [])) = subst (λ (l : List ℕ). Begins l (spelled 0x12 (0x12 ∷ []))) same (first_spelled laws bytes z) in
    elim bad [
      | inl p ↦ let one : spelled 0x12 (0x12 ∷ []) ≡ too_long = laws.one_front rest (spelled 0x12 (0x12 ∷ [])) too_long here p in cc
      | inr p ↦ let one : spelled 0x12 (0x12 ∷ []) ≡ not_shortest = laws.one_front rest (spelled 0x12 (0x12 ∷ [])) not_shortest here p in cc
    ]
bad_with laws bytes (v ∷ []) at rest begins f bad z = begins_one laws bytes v _ at rest begins f z
bad_with laws bytes (v ∷ c ∷ []) at rest begins f bad z = begins_one laws bytes v _ at rest begins.0 f z
bad_with laws bytes (v ∷ c ∷ h ∷ []) at rest begins f bad z = begins_one laws bytes v _ at rest begins.0 f z
bad_with laws bytes (v ∷ c ∷ h ∷ n ∷ more) at rest begins f bad z = absurd begins

bad_is_one : SpellingLaws → (bytes : List ℕ) (at : ℕ) → HasBadVarint bytes at → IsVersionZero bytes → ⊥
bad_is_one laws bytes at h = bad_with laws bytes h.numbers at h.rest h.begins h.follows h.bad

pub reads_once : SpellingLaws → (bytes : List ℕ) (r s : Answer) → Reads bytes r → Reads bytes s → r ≡ s
reads_once laws bytes r s (one p a) (one q b) = one_answer laws bytes r s a b
reads_once laws bytes r s (one p a) (lone e b) = absurd (p (record { rest = []; begins = inl e }))
reads_once laws bytes r s (one p a) (zero_version rest e b) = absurd (p (record { rest = rest; begins = inr e }))
reads_once laws bytes r s (lone e a) (one q b) = absurd (q (record { rest = []; begins = inl e }))
reads_once laws bytes r s (lone e a) (lone h b) = a ∙ sym b
reads_once laws bytes r s (lone e a) (zero_version rest h b) = absurd (omega (arith, ap length (sym e ∙ h)))
reads_once laws bytes r s (zero_version rest e a) (one q b) = absurd (q (record { rest = rest; begins = inr e }))
reads_once laws bytes r s (zero_version rest e a) (lone h b) = absurd (omega (arith, ap length (sym h ∙ e)))
reads_once laws bytes r s (zero_version rest e a) (zero_version more h b) = one_digest 0 DagPb Sha256 32 bytes 2 r s a b

told_zero : (bytes rest : List ℕ) (r : Answer) → All (λ b. b < 256) bytes → bytes ≡ 0x12 ∷ 0x20 ∷ rest → DigestThen 0 DagPb Sha256 32 bytes 2 r → Told bytes r
told_zero bytes rest r are_bytes e (inl a) =
    let few : length bytes < 2 + 32 = a.0 in
    let long : length bytes ≡ length (0x12 ∷ 0x20 ∷ rest) = ap length e in
    subst (Told bytes) (sym a.1) (refl, inl (record { rest = rest; begins = inr (e, omega arith) }))
told_zero bytes rest r are_bytes e (inr a) =
    let enough : 2 + 32 ≤ length bytes = a.0 in
    subst (Told bytes) (sym a.1) (
      enough,
      inl (record {
        version = refl;
        codec = refl;
        hash = refl;
        size = length-take-le 32 (drop 2 bytes) (omega (arith, length-drop 2 bytes));
        are_bytes = All-take (λ b. b < 256) 32 (drop 2 bytes) (All-drop (λ b. b < 256) 2 bytes are_bytes);
        whole = ap (λ l. take 34 l) e ∙ ap (λ l. 0x12 ∷ 0x20 ∷ take 32 l) (ap (λ l. drop 2 l) (sym e));
      }),
    )

told : (bytes : List ℕ) (r : Answer) → All (λ b. b < 256) bytes → Reads bytes r → Told bytes r
told bytes r are_bytes (one p a) = told_one bytes r p are_bytes a
told bytes r are_bytes (lone e a) =
    subst (Told bytes) (sym a) (sym (ap length e), inl (record { rest = []; begins = inl e }))
told bytes r are_bytes (zero_version rest e a) = told_zero bytes rest r are_bytes e a

caused : SpellingLaws → (bytes : List ℕ) (fault : CidFault) → HasPrefixCause bytes fault → Reads bytes (Err fault)
caused laws bytes faults.BadText h = absurd h
caused laws bytes (faults.BadVersion n) h = one h.0.other (bad_version bytes n h.0.at h.0.rest h.0.follows h.1)
caused laws bytes (faults.BadCodec n) h = one h.0.other (bad_codec bytes n h.0.at h.0.rest h.0.follows h.1)
caused laws bytes (faults.BadHash n) h = one h.2.other (bad_hash bytes h.0 n h.2.at h.2.rest h.1 h.2.follows h.3)
caused laws bytes (faults.BadLength n) h = one h.3.other (bad_size bytes h.0 h.1 n h.3.at h.3.rest h.2 h.3.follows h.4)
caused laws bytes (faults.Trailing n) h = absurd h
caused laws bytes (faults.Short n) h = subst (λ (k : ℕ). Reads bytes (Err (faults.Short k))) (sym h.0) (elim h.1 [
  | inl z ↦ elim z.begins [
    | inl e ↦ lone e (ap (λ k. Err (faults.Short k)) (ap length e))
    | inr e ↦
        let few : length z.rest < 32 = e.1 in
        let long : length bytes ≡ length (0x12 ∷ 0x20 ∷ z.rest) = ap length e.0 in
        zero_version z.rest e.0 (inl (omega arith, refl))
  ]
  | inr k ↦ elim k [
    | inl v ↦ one v.other (no_number bytes v.numbers v.at v.rest _ v.begins (stand v.follows)
        (inl (refl, rw (← rest_is v.follows) v.ends)))
    | inr d ↦ one (begins_one laws bytes 1 _ d.at d.rest refl d.follows) (short_digest bytes d)
  ]
])
caused laws bytes (faults.BadVarint at) h =
    one (bad_is_one laws bytes at h) (no_number bytes h.numbers at h.rest _ h.begins (stand h.follows)
    (inr (refl, rw (← rest_is h.follows) h.bad)))
caused laws bytes faults.OutOfMemory h = absurd h

pub found : SpellingLaws → (bytes : List ℕ) (cid : CidParts) (front rest : List ℕ) → CidBytes cid front → bytes ≡ front ++ rest → Reads bytes (Ok (cid, length front))
found laws bytes cid front rest (inl h) e =
    let whole : bytes ≡ 0x12 ∷ 0x20 ∷ (cid.digest ++ rest) = e ∙ ap (λ l. l ++ rest) h.whole in
    let size : length cid.digest ≡ 32 = h.size in
    let end : length front ≡ 2 + 32 = let l : length front ≡ length (0x12 ∷ 0x20 ∷ cid.digest) = ap length h.whole in omega arith in
    let long : length bytes ≡ length front + length rest = ap length e ∙ length-append front rest in
    let digest : cid.digest ≡ take 32 (drop 2 bytes) = sym (ap (λ l. take 32 (drop 2 l)) whole ∙ take_at cid.digest rest 32 size) in
    let cids : cid ≡ record { version = 0; codec = DagPb; hash = Sha256; digest = take 32 (drop 2 bytes) } =
    equal_parts cid _ h.version h.codec h.hash digest in
    zero_version (cid.digest ++ rest) whole (inr (omega arith, ap₂ (λ (x : CidParts) (n : ℕ). Ok (x, n)) cids end))
found laws bytes cid front rest (inr h) e =
    let whole : bytes ≡ h.head ++ (cid.digest ++ rest) = e ∙ (ap (λ l. l ++ rest) h.whole ∙ append_assoc h.head cid.digest rest) in
    let f : Follows (1 ∷ codec_code cid.codec ∷ hash_code cid.hash ∷ length cid.digest ∷ []) bytes (length h.head) (cid.digest ++ rest) = record { front = h.head; whole = whole; at_is = refl; spelled = h.numbers } in
    one (begins_one laws bytes 1 _ (length h.head) (cid.digest ++ rest) refl f) (found_one cid bytes front rest h e)

-- the clauses of `from_prefix`
pub record Answers (bytes : List ℕ) (r : Answer) : Type 0 where
  pub found : IfOk r (λ found. (found.1 ≤ length bytes) × CidBytes found.0 (take found.1 bytes))
  pub only : (cid : CidParts) (front rest : List ℕ) → CidBytes cid front → bytes ≡ front ++ rest → r ≡ Ok (cid, length front)
  pub cause : IfErr r (HasPrefixCause bytes)
  pub given : (fault : CidFault) → HasPrefixCause bytes fault → r ≡ Err fault

pub answers : SpellingLaws → (bytes : List ℕ) (r : Answer) → All (λ b. b < 256) bytes → Reads bytes r → Answers bytes r
answers laws bytes r are_bytes reads =
    let says = told bytes r are_bytes reads in
    record {
      found = MatchResult-weaker r says (λ x h. h) (λ y h. tt);
      only = λ cid front rest h e. reads_once laws bytes r _ reads (found laws bytes cid front rest h e);
      cause = MatchResult-weaker r says (λ x h. tt) (λ y h. h);
      given = λ fault h. reads_once laws bytes r _ reads (caused laws bytes fault h);
    }

-- what the tests of the first bytes say
pub lone_is : (bytes : List ℕ) → length bytes ≡ 1 → get_or bytes 0 0 ≡ 0x12 → bytes ≡ 0x12 ∷ []
lone_is [] l e = absurd (omega arith)
lone_is (x ∷ []) l e = ap (λ (a : ℕ). a ∷ []) e
lone_is (x ∷ y ∷ rest) l e = absurd (omega arith)

pub zero_is : (bytes : List ℕ) → 2 ≤ length bytes → get_or bytes 0 0 ≡ 0x12 → get_or bytes 1 0 ≡ 0x20 → bytes ≡ 0x12 ∷ 0x20 ∷ drop 2 bytes
zero_is [] l e h = absurd (omega arith)
zero_is (x ∷ []) l e h = absurd (omega arith)
zero_is (x ∷ y ∷ rest) l e h = ap₂ (λ (a b : ℕ). a ∷ b ∷ rest) e h

pub not_zero : (bytes : List ℕ) → (length bytes ≡ 1 → get_or bytes 0 0 ≡ 0x12 → ⊥)
    → (2 ≤ length bytes → get_or bytes 0 0 ≡ 0x12 → get_or bytes 1 0 ≡ 0x20 → ⊥) → IsVersionZero bytes → ⊥
not_zero bytes lone_not pair_not z = elim z.begins [
  | inl e ↦ lone_not (ap length e) (ap (λ (l : List ℕ). get_or l 0 0) e)
  | inr e ↦
      let long : length bytes ≡ length (0x12 ∷ 0x20 ∷ z.rest) = ap length e in
      pair_not (omega arith) (ap (λ (l : List ℕ). get_or l 0 0) e) (ap (λ (l : List ℕ). get_or l 1 0) e)
]
