-- Heads of a reply, of which bytes are taken piece by piece.
use Rattle.std.proofs.Common.{◌≡◌, ℕ, suc, zero, ◌+◌, ◌-◌, ◌<◌, ◌≤◌}
use Rattle.std.proofs.Common.{List, [], ◌∷◌, ◌++◌, length, take, drop, None, Option, Some, refl, sym, ap, ◌∙◌, subst, inl, inr, append-nil, append_assoc, arith}
use Rattle.std.specs.Prelude.{◌⊎◌}
use Rattle.std.proofs.lemmas.Bool.{cases_lt}
use Rattle.std.proofs.lemmas.List.{length-append, length-take-le, take-append-drop, take-append-le, take-take, take_at}
use Rattle.std.proofs.Math.Seq.{take-append-add}
use Rattle.tg_fetch.specs.Faults.{fault_of_http}
use Rattle.tg_fetch.specs.Heads.{HeadsStop, IsInHeads}
use Rattle.tg_fetch.specs.HeadsStates.{HeadsState}
use Rattle.tg_heard.specs.FinalHeads.{BeginsReply, FinalHead, HasBadHead, Interims, IsInterim, more, no_head, none, too_many}
use Rattle.tg_heard.specs.FrontLaws.{HeadLaws}
use Rattle.tg_http.specs.HeadText.{BeginsHead}
use Rattle.tg_http.specs.Heads.{FindsReply, HasHeadCause, IsNoReply, IsWaiting}
use Rattle.tg_http.specs.declared.fault.HttpFault.{HttpFault}
use Rattle.tg_http.specs.declared.fault.HttpFault.TheVariants as faults
use Rattle.tg_http.specs.declared.reply.ReplyHead.{ReplyHead}

-- a part is no longer than the whole
inner_within : (front part back text : List ℕ) → text ≡ front ++ (part ++ back) → length part ≤ length text
inner_within front part back text e = omega (arith, ap length e, length-append front (part ++ back), length-append part back)

-- no head text is empty, so none is whole before the first byte
no_head_text : (text : List ℕ) (count : ℕ) → BeginsHead [] text count → ⊥
no_head_text text count b =
    let l = b.text_is.start_is.line_is in
    omega (arith, ap length b.whole, length-append text b.rest, inner_within _ b.text_is.start _ text b.text_is.whole, ap length l.whole, length-append l.front (10 ∷ []))

pub waits_first : IsWaiting []
waits_first = record { none = no_head_text; short = omega arith }

-- ---- interim heads

-- one more of them
one_more : (n : ℕ) (bytes behind rest : List ℕ) (head : ReplyHead) → Interims n bytes behind → BeginsReply behind head rest → IsInterim head → Interims (suc n) bytes rest
one_more n bytes behind rest head (none b) begins interim = more zero b rest rest head begins interim (none rest)
one_more n bytes behind rest head (more i b r z first starts inside below) begins interim =
    more (suc i) b r rest first starts inside (one_more i r z rest head below begins interim)

-- ---- the head that a piece makes whole

-- a piece in two parts
parts : (room : ℕ) (kept piece : List ℕ) → (kept ++ take room piece) ++ drop room piece ≡ kept ++ piece
parts room kept piece = append_assoc kept (take room piece) (drop room piece) ∙ ap (λ (l : List ℕ). kept ++ l) (take-append-drop room piece)

module _ (kept piece : List ℕ) (room : ℕ) (head : ReplyHead) (found : FindsReply (kept ++ take room piece) (Some head)) where
  abbrev text : List ℕ
  text = found.0

  abbrev begun : BeginsHead (kept ++ take room piece) text found.2.count
  begun = found.2.begins

  -- it ends behind what was kept, where no head was whole
  ends_behind : IsWaiting kept → length kept < length text
  ends_behind waiting = decide (cases_lt (length kept) (length text))
    where
      decide : (length kept < length text) ⊎ (length text ≤ length kept) → length kept < length text
      decide (inl lt) = lt
      decide (inr le) = absurd (waiting.none text found.2.count (record {
        text_is = begun.text_is;
        rest = drop (length text) kept;
        whole = sym (take-append-drop (length text) kept) ∙ ap (λ (l : List ℕ). l ++ drop (length text) kept)
            (sym (take-append-le (length text) kept (take room piece) le) ∙ ap (take (length text)) begun.whole ∙ take_at text begun.rest (length text) refl);
        fits = begun.fits;
      }))

  abbrev taken : ℕ
  taken = length text - length kept

  ends_within : room ≤ length piece → taken ≤ room
  ends_within within =
      omega (arith, ap length begun.whole, length-append text begun.rest, length-append kept (take room piece), length-take-le room piece within)

  -- what was kept and the bytes up to its end are its text
  text_is : IsWaiting kept → room ≤ length piece → text ≡ kept ++ take taken piece
  text_is waiting within =
      sym (take_at text begun.rest (length text) refl) ∙ ap (take (length text)) (sym begun.whole)
      ∙ ap (λ (n : ℕ). take n (kept ++ take room piece)) (omega (arith, ends_behind waiting))
      ∙ take-append-add kept (take room piece) taken
      ∙ ap (λ (l : List ℕ). kept ++ l) (take-take taken room piece (ends_within within))

  -- and begin with it
  begins_text : BeginsReply text head []
  begins_text = record {
    text = text;
    tree = found.1;
    is_reply = record {
      count = found.2.count;
      begins = record { text_is = begun.text_is; rest = []; whole = sym (append-nil text); fits = begun.fits };
      few = found.2.few;
      reads = found.2.reads;
    };
    told = found.3;
    whole = sym (append-nil text);
  }

  used_is : head.used ≡ length text
  used_is = found.3.used_is

  takes_some : IsWaiting kept → 0 < head.used - length kept
  takes_some waiting = omega (arith, used_is, ends_behind waiting)

  begins_taken : IsWaiting kept → room ≤ length piece → BeginsReply (kept ++ take (head.used - length kept) piece) head []
  begins_taken waiting within =
      subst (λ (l : List ℕ). BeginsReply l head []) (text_is waiting within ∙ ap (λ (n : ℕ). kept ++ take (n - length kept) piece) (sym used_is)) begins_text

-- ---- what the heads say then

-- a head is found in what came
pub found_in : (bytes came : List ℕ) (told : Option ReplyHead) (head : ReplyHead) → bytes ≡ came → told ≡ Some head → FindsReply bytes told → FindsReply came (Some head)
found_in bytes came told head same is found = subst (FindsReply came) is (subst (λ (l : List ℕ). FindsReply l told) same found)

-- or none
pub waits_in : (bytes : List ℕ) (told : Option ReplyHead) → told ≡ None → FindsReply bytes told → IsWaiting bytes
waits_in bytes told is found = subst (FindsReply bytes) is found

-- as a value sees it
pub seen_as : (a b : HeadsState) (heard : List ℕ) → a ≡ b → IsInHeads b heard → IsInHeads a heard
seen_as a b heard e h = subst (λ (s : HeadsState). IsInHeads s heard) (sym e) h

pub came_as : (interims : ℕ) (came bytes heard : List ℕ) → came ≡ bytes → IsInHeads (record { interims = interims; came = bytes }) heard
    → IsInHeads (record { interims = interims; came = came }) heard
came_as interims came bytes heard e h = subst (λ (l : List ℕ). IsInHeads (record { interims = interims; came = l }) heard) (sym e) h

module _ (laws : HeadLaws) (heads : HeadsState) (heard piece : List ℕ) (room : ℕ) (old : IsInHeads heads heard) where
  no_reply_there : (fault : HttpFault) → HasHeadCause IsNoReply (heads.came ++ take room piece) fault → HasBadHead (heard ++ piece)
  no_reply_there fault cause =
      subst HasBadHead (parts room heard piece)
      (laws.bad_stays (heard ++ take room piece) (drop room piece)
      (no_head heads.interims (heads.came ++ take room piece) fault (laws.interims_stay heads.interims heard heads.came (take room piece) old.interims) old.few cause))

  -- no head of a reply is there
  pub no_reply : (fault : HttpFault) → (fault ≡ faults.OutOfMemory) ⊎ HasHeadCause IsNoReply (heads.came ++ take room piece) fault → HeadsStop (heard ++ piece) (fault_of_http fault)
  no_reply faults.BadHead (inl e) = cc
  no_reply faults.BadHead (inr cause) = no_reply_there faults.BadHead cause
  no_reply faults.HeadLimit (inl e) = cc
  no_reply faults.HeadLimit (inr cause) = no_reply_there faults.HeadLimit cause
  no_reply faults.BadFraming (inl e) = cc
  no_reply faults.BadFraming (inr cause) = absurd cause
  no_reply faults.OutOfMemory cause = tt

  pub still_waits : IsWaiting (heads.came ++ take room piece) → IsInHeads (record { interims = heads.interims; came = heads.came ++ take room piece }) (heard ++ take room piece)
  still_waits waiting = record {
    interims = laws.interims_stay heads.interims heard heads.came (take room piece) old.interims;
    few = old.few;
    waiting = waiting;
  }

  module _ (head : ReplyHead) (within : room ≤ length piece) (found : FindsReply (heads.came ++ take room piece) (Some head))
      (size : ℕ) (size_is : size ≡ head.used - length heads.came) where
    begins_there : BeginsReply (heads.came ++ take size piece) head []
    begins_there =
        subst (λ (n : ℕ). BeginsReply (heads.came ++ take n piece) head []) (sym size_is) (begins_taken heads.came piece room head found old.waiting within)

    pub moves_on : 0 < size
    moves_on = omega (arith, size_is, takes_some heads.came piece room head found old.waiting)

    pub ends_final : (IsInterim head → ⊥) → FinalHead (heard ++ take size piece) head []
    ends_final final = record {
      count = heads.interims;
      behind = heads.came ++ take size piece;
      interims = laws.interims_stay heads.interims heard heads.came (take size piece) old.interims;
      few = old.few;
      begins = begins_there;
      final = final;
    }

    another : IsInterim head → Interims (suc heads.interims) (heard ++ take size piece) []
    another interim =
        one_more heads.interims (heard ++ take size piece) (heads.came ++ take size piece) [] head
        (laws.interims_stay heads.interims heard heads.came (take size piece) old.interims)
        begins_there interim

    -- the seventeenth
    pub one_too_many : IsInterim head → 16 ≤ heads.interims → HasBadHead (heard ++ piece)
    one_too_many interim many =
        too_many (drop size piece) (subst (λ (n : ℕ). Interims n (heard ++ piece) (drop size piece)) (omega (arith, many, old.few))
        (subst (λ (l : List ℕ). Interims (suc heads.interims) l (drop size piece)) (parts size heard piece)
        (laws.interims_stay (suc heads.interims) (heard ++ take size piece) [] (drop size piece) (another interim))))

    pub goes_on : IsInterim head → heads.interims < 16 → IsInHeads (record { interims = heads.interims + 1; came = [] }) (heard ++ take size piece)
    goes_on interim few = record {
      interims = subst (λ (n : ℕ). Interims n (heard ++ take size piece) []) (omega arith) (another interim);
      few = omega (arith, few);
      waiting = waits_first;
    }
