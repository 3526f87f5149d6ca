-- A block that comes at the place that is wanted: of sections that begin one list one comes.
use Rattle.std.proofs.Common.{◌≡◌, ◌⊎◌, ◌++◌, ◌∷◌, Bool, Contains, List, [], true, false, inl, inr, refl, sym, ap, ◌∙◌, subst, append_assoc}
use Rattle.std.proofs.lemmas.List.{append_cancel_left}
use Rattle.tg_cid.specs.Cid.{CidParts}
use Rattle.tg_cid.specs.Names.{IsDigestOf, Names}
use Rattle.tg_cid.specs.declared.cid.HashKind.{HashKind}
use Rattle.tg_cid.specs.declared.cid.HashKind.TheVariants.{Identity}
use Rattle.tg_cut_laws.specs.Sections.{BeginOne}
use Rattle.tg_traversal.specs.Left.{WantedAt}
use Rattle.tg_model.specs.Dag.{Section}
use Rattle.tg_model.specs.Fits.{HasOneBlockEach}
use Rattle.tg_model.specs.Queries.{QueryParts}
use Rattle.tg_model.specs.Traversal.{is_asked, is_sent_behind}
use Rattle.tg_model_laws.specs.SentSections.{known_behind, once, sent_held, unasked_identity}
use Rattle.tg_model_laws.specs.TakenBlocks.{opened_by}
use Rattle.tg_model_laws.specs.Tasks.{Task, open_block}
use Rattle.tg_model_laws.specs.Verified.{IsHad, Verified}
use Rattle.tg_verify.specs.Reached.{Stage}

-- ---- lists that begin one list

-- of two lists behind one the first elements are one
pub one_next : {X : Type 0} (s : List X) (x y : X) → BeginOne (s ++ x ∷ []) (s ++ y ∷ []) → x ≡ y
one_next s x y h =
    let both = append_cancel_left s (x ∷ h.a_more) (y ∷ h.b_more) (sym (append_assoc s (x ∷ []) h.a_more) ∙ h.one ∙ append_assoc s (y ∷ []) h.b_more) in
    cc

-- ---- a block that comes

-- a section that is sent behind the others is one more of them; or the block was received before, or is its CID's digest
pub record IsHadAt (sections : List Section) (at : WantedAt) (section : Section) (shown : List Section) : Type 0 where
  pub shown_are : shown ≡ sections
  pub same : section.cid ≡ at.cid
  pub had : IsHad sections section
  pub named : Names section.cid section.block

-- by whether a section is sent for it
abbrev pub ComesIf : Bool → List Section → WantedAt → Section → List Section → Type 0
ComesIf true sections at section shown = shown ≡ sections ++ section ∷ []
ComesIf false sections at section shown = IsHadAt sections at section shown

-- at the place that is wanted, and so these sections were shown
pub record Comes (q : QueryParts) (stage : Stage) (at : WantedAt) (later : List (Task CidParts)) (section : Section) (sends : Bool) (shown : List Section) : Type 0 where
  pub wanted : stage.tasks ≡ open_block at.want at.cid ∷ later
  pub verified : Verified q stage.sections stage.given stage.tasks
  pub sends_is : is_sent_behind q stage.sections at.cid ≡ sends
  pub comes : ComesIf sends stage.sections at section shown

-- ---- one block is had under a CID

-- a block under an identity CID is its digest
own_block : (section : Section) → Names section.cid section.block → section.cid.hash ≡ Identity → section.cid.digest ≡ section.block
own_block section named e = subst (λ (hash : HashKind). IsDigestOf hash section.cid.digest section.block) e named

-- so one block has such a CID
one_own : (x y : Section) → Names x.cid x.block → Names y.cid y.block → x.cid ≡ y.cid → x.cid.hash ≡ Identity → x.block ≡ y.block
one_own x y named also same e =
    sym (own_block x named e) ∙ ap (λ (c : CidParts). c.digest) same ∙ own_block y also (ap (λ (c : CidParts). c.hash) (sym same) ∙ e)

-- and one block of those that are had
one_had : (q : QueryParts) (stage : Stage) (cid : CidParts) (x y : Section) → Verified q stage.sections stage.given stage.tasks → is_sent_behind q stage.sections cid ≡ false
    → Names x.cid x.block → Names y.cid y.block → x.cid ≡ cid → y.cid ≡ cid → IsHad stage.sections x → IsHad stage.sections y → x.block ≡ y.block
one_had q stage cid x y v unsent named also e d a b = by (known_behind q stage.sections cid unsent) a b
  where
    opened : (z : Section) → Contains stage.sections z → Contains (opened_by stage.given) z
    opened z h = sent_held q (opened_by stage.given) z (subst (λ (l : List Section). Contains l z) (sym v.sent_are) h)

    by : (is_asked q cid ≡ false) ⊎ ((q.dups ≡ false) × ((z : Section) × Contains stage.sections z × (z.cid ≡ cid))) → IsHad stage.sections x → IsHad stage.sections y → x.block ≡ y.block
    by (inl unasked) a b = one_own x y named also (e ∙ sym d) (ap (λ (c : CidParts). c.hash) e ∙ unasked_identity q cid unasked)
    by (inr known) (inr own) b = one_own x y named also (e ∙ sym d) own.0
    by (inr known) (inl held) (inr own) = sym (one_own y x also named (d ∙ sym e) own.0)
    by (inr known) (inl held) (inl other) = once q.dups (HasOneBlockEach (opened_by stage.given)) known.0 v.one_each x y (opened x held) (opened y other) (e ∙ sym d)

-- ---- so one comes

-- all of it is the same
pub record IsOneThere (at other : WantedAt) (later behind : List (Task CidParts)) (section known : Section) (sends shows : Bool) (shown seen : List Section) : Type 0 where
  pub at_is : at ≡ other
  pub later_is : later ≡ behind
  pub section_is : section ≡ known
  pub sends_is : sends ≡ shows
  pub shown_is : shown ≡ seen

-- places and sections with the same parts are the same
one_place_of : (a b : WantedAt) → a.want ≡ b.want → a.cid ≡ b.cid → a ≡ b
one_place_of a b e d = λ i. record { want = e i; cid = d i }

one_section : (a b : Section) → a.cid ≡ b.cid → a.block ≡ b.block → a ≡ b
one_section a b e d = λ i. record { cid = e i; block = d i }

-- of what is shown at one stage, where both lists begin one list
pub one_comes : (q : QueryParts) (stage : Stage) (at other : WantedAt) (later behind : List (Task CidParts)) (x y : Section) (sends shows : Bool) (shown seen : List Section)
    → Comes q stage at later x sends shown → Comes q stage other behind y shows seen → BeginOne shown seen
    → IsOneThere at other later behind x y sends shows shown seen
one_comes q stage at other later behind x y sends shows shown seen a b one = by sends shows sends_one (a.sends_is) a.comes b.comes
  where
    both : open_block at.want at.cid ∷ later ≡ open_block other.want other.cid ∷ behind
    both = sym a.wanted ∙ b.wanted

    cid_is : at.cid ≡ other.cid
    cid_is = let e = both in cc

    want_is : at.want ≡ other.want
    want_is = let e = both in cc

    behind_is : later ≡ behind
    behind_is = let e = both in cc

    sends_one : sends ≡ shows
    sends_one = sym a.sends_is ∙ ap (is_sent_behind q stage.sections) cid_is ∙ b.sends_is

    by : (sends shows : Bool) → sends ≡ shows → is_sent_behind q stage.sections at.cid ≡ sends → ComesIf sends stage.sections at x shown → ComesIf shows stage.sections other y seen
        → IsOneThere at other later behind x y sends shows shown seen
    by true false e u c d = absurd (cc e)
    by false true e u c d = absurd (cc e)
    by true true e u c d =
        let begins = subst (λ (l : List Section). BeginOne l (stage.sections ++ y ∷ [])) c (subst (λ (l : List Section). BeginOne shown l) d one) in
        let same = one_next stage.sections x y begins in
        record {
          at_is = one_place_of at other want_is cid_is;
          later_is = behind_is;
          section_is = same;
          sends_is = refl;
          shown_is = c ∙ ap (λ (s : Section). stage.sections ++ s ∷ []) same ∙ sym d;
        }
    by false false e u c d =
        let cids : x.cid ≡ y.cid = c.same ∙ cid_is ∙ sym d.same in
        let block = one_had q stage at.cid x y a.verified u c.named d.named c.same (d.same ∙ sym cid_is) c.had d.had in
        record {
          at_is = one_place_of at other want_is cid_is;
          later_is = behind_is;
          section_is = one_section x y cids block;
          sends_is = refl;
          shown_is = c.shown_are ∙ sym d.shown_are;
        }
