-- What lanes heard at a lane, and what that leaves at the others.
use Rattle.std.proofs.Common.{Bool, Err, List, None, Ok, Option, Some, [], ap, append-nil, arith, eq-eqb, false, inl, inr, length, length-append, length-set, refl, subst, sym, true, ℕ, ◌++◌, ◌<◌, ◌==◌, ◌∙◌, ◌∷◌, ◌≡◌, ◌≤◌, ◌⊎◌}
use Rattle.std.specs.Prelude.{Result, slice_get, slice_set}
use Rattle.tg_bytes.specs.Told.{IsNothing, after_front, grown}
use Rattle.tg_bytes.specs.ToldLaws.{after_front-after_front, grown-grown}
use Rattle.tg_gateway.specs.Sessions.{SessionView, next_of}
use Rattle.tg_gateway.specs.declared.fault.GatewayFault.{GatewayFault}
use Rattle.tg_gateway.specs.declared.fault.GatewayFault.TheVariants as faults
use Rattle.tg_gateway.specs.declared.session.Next.{Next}
use Rattle.tg_gateway.specs.declared.session.Next.TheVariants as nexts
use Rattle.tg_lanes.specs.Hearing.{HasEndedAs, HasFailedAs, HeardOn, IsFedAs, IsHeardAs, LinkFails, fed_over}
use Rattle.tg_lanes.specs.History.{AreInTurn, Fed, LaneStands, LanesStandFor, Move, fed_in, has_ended, own_of, since_of, was_fed, written_in}
use Rattle.tg_lanes.specs.Lanes.{LanesView}
use Rattle.tg_lanes.specs.OwnLaws.{fed_push, get_elsewhere, own_elsewhere, own_ended, own_here, since_push, written_push}
use Rattle.tg_links.specs.Links.{LinkMeaning}
use Rattle.tg_links.specs.Steps.{LinkStep, Spoke, link_step}
use Rattle.tg_streams.specs.Streams.{SourceMeaning}

-- ---- a link

none_behind : (front rest : List ℕ) → front ++ rest ≡ [] → rest ≡ []
none_behind [] rest is = is
none_behind (x ∷ front) rest is = absurd (cc is)

nothing_behind : (front : List ℕ) (old new : Option (List ℕ)) → old ≡ after_front front new → IsNothing old → IsNothing new
nothing_behind front (Some old) (Some new) is none = none_behind front new (let e : Some old ≡ Some (front ++ new) = is in cc)
nothing_behind front None (Some new) is none = absurd (let e : None ≡ Some (front ++ new) = is in cc)
nothing_behind front old None is none = tt

-- what went through it in one step after another
pub spoke_joins : {K : Type 0} (m : LinkMeaning K) (source : SourceMeaning K) (a b c : K) (heard said more_heard more_said : List ℕ)
    → Spoke (link_step m source a b) heard said → Spoke (link_step m source b c) more_heard more_said
    → Spoke (link_step m source a c) (heard ++ more_heard) (said ++ more_said)
spoke_joins m source a b c heard said more_heard more_said one other = record {
  left_is = one.left_is ∙ ap (after_front heard) other.left_is ∙ after_front-after_front heard more_heard (m.left c);
  heard_is = other.heard_is ∙ ap (λ (told : Option (List ℕ)). grown told more_heard) one.heard_is ∙ grown-grown (m.heard a) heard more_heard;
  said_is = other.said_is ∙ ap (λ (told : Option (List ℕ)). grown told more_said) one.said_is ∙ grown-grown (m.said a) said more_said;
  ended = ends (m.over b) refl;
}
  where
    ends : (over : Bool) → m.over b ≡ over → m.over a ≡ false → m.over c ≡ true → IsNothing (m.left c)
    ends true at was is = nothing_behind more_heard (m.left b) (m.left c) other.left_is (one.ended was at)
    ends false at was is = other.ended at is

-- ---- what happened more

-- this was heard and written at the lane; at the others nothing happened, and no lane was renewed
pub record HasGrown (lane before : ℕ) (moves more : List Move) (piece written : List ℕ) : Type 0 where
  pub fed_is : fed_in (own_of lane (moves ++ more)) ≡ fed_in (own_of lane moves) ++ piece
  pub written_is : written_in (own_of lane (moves ++ more)) ≡ written_in (own_of lane moves) ++ written
  pub others : (other : ℕ) → (lane == other) ≡ false → own_of other (moves ++ more) ≡ own_of other moves
  pub since : (other : ℕ) → since_of other before (moves ++ more) ≡ since_of other before moves

grown_fed : (lane before : ℕ) (moves : List Move) (f : Fed) → HasGrown lane before moves (was_fed lane f ∷ []) f.piece f.written
grown_fed lane before moves f = record {
  fed_is = ap fed_in (own_here lane moves f) ∙ fed_push (own_of lane moves) f;
  written_is = ap written_in (own_here lane moves f) ∙ written_push (own_of lane moves) f;
  others = λ other apart. own_elsewhere other lane moves f apart;
  since = λ other. since_push other before moves (was_fed lane f);
}

grown_ended : (lane before : ℕ) (moves : List Move) → HasGrown lane before moves (has_ended lane ∷ []) [] []
grown_ended lane before moves = record {
  fed_is = ap fed_in (own_ended lane lane moves) ∙ sym (append-nil (fed_in (own_of lane moves)));
  written_is = ap written_in (own_ended lane lane moves) ∙ sym (append-nil (written_in (own_of lane moves)));
  others = λ other apart. own_ended other lane moves;
  since = λ other. since_push other before moves (has_ended lane);
}

grown_none : (lane before : ℕ) (moves : List Move) → HasGrown lane before moves [] [] []
grown_none lane before moves = record {
  fed_is = ap (λ (l : List Move). fed_in (own_of lane l)) (append-nil moves) ∙ sym (append-nil (fed_in (own_of lane moves)));
  written_is = ap (λ (l : List Move). written_in (own_of lane l)) (append-nil moves) ∙ sym (append-nil (written_in (own_of lane moves)));
  others = λ other apart. ap (own_of other) (append-nil moves);
  since = λ other. ap (since_of other before) (append-nil moves);
}

grown_by : (lane before : ℕ) (moves more others : List Move) (piece written heard said : List ℕ) → more ≡ others → piece ≡ heard → written ≡ said
    → HasGrown lane before moves others heard said → HasGrown lane before moves more piece written
grown_by lane before moves more others piece written heard said e f g h =
    subst (λ (l : List Move). HasGrown lane before moves l piece written) (sym e)
    (subst (λ (l : List ℕ). HasGrown lane before moves others l written) (sym f)
    (subst (λ (l : List ℕ). HasGrown lane before moves others heard l) (sym g) h))

module _ {B : Type 0} (old new : LanesView B) (lane first now : ℕ) (link : LinkStep) (result : Result Next GatewayFault) (piece written : List ℕ) (more : List Move) where
  pub has_grown : (before : ℕ) (moves : List Move) → IsHeardAs old new lane first now link result piece written more → HasGrown lane before moves more piece written
  has_grown before moves (inl fed) =
      grown_by lane before moves more (was_fed lane (fed_over piece written first now link) ∷ []) piece written piece written fed.more_is refl refl
      (grown_fed lane before moves (fed_over piece written first now link))
  has_grown before moves (inr (inl ended)) =
      grown_by lane before moves more (has_ended lane ∷ []) piece written [] [] ended.as_was.more_is ended.as_was.piece_is ended.as_was.written_is
      (grown_ended lane before moves)
  has_grown before moves (inr (inr failed)) =
      grown_by lane before moves more [] piece written [] [] failed.as_was.more_is failed.as_was.piece_is failed.as_was.written_is
      (grown_none lane before moves)

  -- the sessions of the other lanes are as they were
  pub others_same : IsHeardAs old new lane first now link result piece written more → (other : ℕ) → (lane == other) ≡ false
      → slice_get new.sessions other ≡ slice_get old.sessions other
  others_same (inl fed) other apart =
      ap (λ (l : List SessionView). slice_get l other) fed.sessions ∙ get_elsewhere old.sessions lane other fed.session apart
  others_same (inr (inl ended)) other apart = ap (λ (v : LanesView B). slice_get v.sessions other) ended.as_was.same
  others_same (inr (inr failed)) other apart = ap (λ (v : LanesView B). slice_get v.sessions other) failed.as_was.same

  -- where its session goes on it was fed
  pub goes_fed : result ≡ Ok nexts.More → IsHeardAs old new lane first now link result piece written more
      → IsFedAs old new lane first now link result piece written more
  goes_fed goes (inl fed) = fed
  goes_fed goes (inr (inl ended)) = absurd (let e = sym goes ∙ ended.closes in cc)
  goes_fed goes (inr (inr failed)) = absurd (let e = sym goes ∙ failed.fails in cc)

-- a session that goes on is open
pub is_open : (closed : Bool) → nexts.More ≡ next_of closed → closed ≡ false
is_open true e = absurd (cc e)
is_open false e = refl

-- the count doesn't fall from one event to the next
pub turn_rises : (since : ℕ) (own : List Fed) (now : ℕ) → AreInTurn since own now → since ≤ now
turn_rises since [] now h = h
turn_rises since (f ∷ own) now h = let more = turn_rises f.store_now own now h.2 in omega (arith, h.0, h.1, more)
