-- The refusals of the one block that a body is.
use Rattle.std.proofs.Common.{◌≡◌, ℕ, ◌≤◌, All, List, [], ◌∷◌, ◌++◌, length, refl, ap, ap₂, sym, subst, ◌∙◌, inl, inr, append-nil, arith}
use Rattle.std.proofs.lemmas.List.{length-append}
use Rattle.std.proofs.lemmas.List.Elements.{All-head}
use Rattle.std.specs.Prelude.{◌⊎◌}
use Rattle.tg_cid.specs.Cid.{CidParts}
use Rattle.tg_cut_laws.proofs.BodyFaults.{IsShort, due_refusal}
use Rattle.tg_cut_laws.specs.Bodies.{IsDueFault}
use Rattle.tg_cut_laws.specs.Sections.{BeginOne, IsDue, SectionLaws}
use Rattle.tg_fetch.specs.Bodies.{BlockRefused, IsBeforeBlock, root_section}
use Rattle.tg_fetch.specs.Faults.{fault_of_refusal}
use Rattle.tg_fetch.specs.declared.fault.FetchFault.{FetchFault}
use Rattle.tg_http.specs.declared.reply.ReplyHead.{ReplyHead}
use Rattle.tg_model.specs.Dag.{Section}
use Rattle.tg_model.specs.LimitNumbers.{LimitNumbers}
use Rattle.tg_model.specs.Queries.{QueryParts}
use Rattle.tg_traversal.specs.Left.{WantedAt}
use Rattle.tg_verify.specs.Refusals.{HasRefused}
use Rattle.tg_verify.specs.State.{count_of}
use Rattle.tg_verify.specs.Taken.{IsThrough, IsUpTo}
use Rattle.tg_verify.specs.declared.fault.Refusal.{Refusal}
use Rattle.tg_verify.specs.declared.fault.Refusal.TheVariants as refusals

module _ (laws : SectionLaws) (q : QueryParts) (limits : LimitNumbers) (body : List ℕ) where
  -- the sections at a refusal: none, or the root's
  abbrev AreOfRoot : List Section → Refusal → Type 0
  AreOfRoot sections cause = ((sections ≡ []) × IsBeforeBlock cause) ⊎ (sections ≡ root_section q body ∷ [])

  -- both are fronts of the one list
  root_front : (sections : List Section) (cause : Refusal) → AreOfRoot sections cause → (rest : List Section) × (sections ++ rest ≡ root_section q body ∷ [])
  root_front sections cause (inl (none, before)) = (root_section q body ∷ [], ap (λ (l : List Section). l ++ (root_section q body ∷ [])) none)
  root_front sections cause (inr one) = ([], append-nil sections ∙ one)

  roots_begin : (a b : List Section) (c d : Refusal) → AreOfRoot a c → AreOfRoot b d → BeginOne a b
  roots_begin a b c d of_a of_b =
      let (a_more, a_one) = root_front a c of_a in
      let (b_more, b_one) = root_front b d of_b in
      record { a_more = a_more; b_more = b_more; one = a_one ∙ sym b_one }

  -- where it's said that no more come, the block came
  root_came : (sections : List Section) (cause : Refusal) (want : CidParts) (number : ℕ) → cause ≡ refusals.Truncated want number → AreOfRoot sections cause
      → sections ≡ root_section q body ∷ []
  root_came sections cause want number e (inl (none, before)) = absurd (subst IsBeforeBlock e before)
  root_came sections cause want number e (inr one) = one

  -- a refusal excludes that no more come
  due_is_not_short : (a b : List Section) (x y : List ℕ) (c d : Refusal) → AreOfRoot a c → AreOfRoot b d → HasRefused q limits a x c → HasRefused q limits b y d → IsDue c → IsShort d → ⊥
  due_is_not_short a b x y c d of_a of_b h k due (want, number, e) =
      let (at, _, short) = subst (λ (r : Refusal). HasRefused q limits b y r) e k in
      let (rest, one) = root_front a c of_a in
      laws.refused_up_to q limits a rest b x y c at (one ∙ sym (root_came b d want number e of_b)) due h short.up_to

  -- two refusals of one block are one
  refusals_once : (a b : List Section) (x y : List ℕ) (c d : Refusal) → AreOfRoot a c → AreOfRoot b d → HasRefused q limits a x c → HasRefused q limits b y d
      → IsDue c ⊎ IsShort c → IsDue d ⊎ IsShort d → (x ≡ y) × (c ≡ d)
  refusals_once a b x y c d of_a of_b h k (inl due) (inl other) =
      let (_, texts, causes) = laws.refused q limits a b x y c d (roots_begin a b c d of_a of_b) due other h k in
      (texts, causes)
  refusals_once a b x y c d of_a of_b h k (inl due) (inr short) = absurd (due_is_not_short a b x y c d of_a of_b h k due short)
  refusals_once a b x y c d of_a of_b h k (inr short) (inl due) = absurd (due_is_not_short b a y x d c of_b of_a k h due short)
  refusals_once a b x y c d of_a of_b h k (inr (want, number, e)) (inr (other, count, i)) =
      let (at, want_is, a_short) = subst (λ (r : Refusal). HasRefused q limits a x r) e h in
      let (place, other_is, b_short) = subst (λ (r : Refusal). HasRefused q limits b y r) i k in
      let same : b ≡ a = root_came b d other count i of_b ∙ sym (root_came a c want number e of_a) in
      let (texts, places) = laws.up_to q limits a x y at place a_short.up_to (subst (λ (l : List Section). IsUpTo q limits l y place) same b_short.up_to) in
      let wants : want ≡ other = want_is ∙ (ap (λ (p : WantedAt). p.cid) places ∙ sym other_is) in
      let numbers : number ≡ count = a_short.number_is ∙ (ap (λ (l : List Section). count_of l) (sym same) ∙ sym b_short.number_is) in
      (texts, e ∙ (ap₂ (λ (w : CidParts) (n : ℕ). refusals.Truncated w n) wants numbers ∙ sym i))

  pub blocks_once : (head : ReplyHead) (a b : List Section) (x y : List ℕ) (f g : FetchFault) → IsDueFault f → IsDueFault g → BlockRefused q limits head body a x f
      → BlockRefused q limits head body b y g → (x ≡ y) × (f ≡ g)
  blocks_once head a b x y f g f_due g_due s t =
      let (texts, causes) = refusals_once a b x y s.cause t.cause s.sections_are t.sections_are s.refused t.refused (due_refusal s.cause (subst IsDueFault s.fault_is f_due))
      (due_refusal t.cause (subst IsDueFault t.fault_is g_due)) in
      (texts, s.fault_is ∙ (ap fault_of_refusal causes ∙ sym t.fault_is))

  -- a block that is the answer is refused for nothing
  no_refusal : (a b : List Section) (x y : List ℕ) (c : Refusal) → AreOfRoot a c → HasRefused q limits a x c → IsDue c ⊎ IsShort c → b ≡ root_section q body ∷ [] → IsThrough q limits b y
      → ⊥
  no_refusal a b x y c of_a h (inl due) is through =
      let (rest, one) = root_front a c of_a in
      let begins : BeginOne a b = record { a_more = rest; b_more = []; one = one ∙ (sym is ∙ sym (append-nil b)) } in
      let (more, _) = laws.refused_through q limits a b x y c begins due h through in
      let all : length (a ++ rest) ≡ 1 = ap length one in
      let own : length b ≡ 1 = ap length is in
      let further : length a ≡ length (b ++ more.section ∷ []) = ap length more.more in
      let single : length (more.section ∷ []) ≡ 1 = refl in
      omega (arith, all, own, further, single, length-append a rest, length-append b (more.section ∷ []))
  no_refusal a b x y c of_a h (inr (want, number, e)) is through =
      let (at, _, short) = subst (λ (r : Refusal). HasRefused q limits a x r) e h in
      laws.through_up_to q limits b [] a y x at (append-nil b ∙ (is ∙ sym (root_came a c want number e of_a))) through short.up_to

  pub block_is_no_answer : (head : ReplyHead) (a b : List Section) (x y : List ℕ) (f : FetchFault) → IsDueFault f → BlockRefused q limits head body a x f → b ≡ root_section q body ∷ []
      → IsThrough q limits b y → ⊥
  block_is_no_answer head a b x y f due s is through =
      no_refusal a b x y s.cause s.sections_are s.refused (due_refusal s.cause (subst IsDueFault s.fault_is due)) is through

  -- and it is within the limit
  pub answer_small : (b : List Section) (y : List ℕ) → b ≡ root_section q body ∷ [] → IsThrough q limits b y → length body ≤ limits.block
  answer_small b y is through =
      let each = subst (λ (l : List Section). All (λ (s : Section). length s.block ≤ limits.block) l) is (laws.small q limits b y through) in
      All-head (λ (s : Section). length s.block ≤ limits.block) (root_section q body) [] each
