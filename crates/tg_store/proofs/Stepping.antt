-- A pack read through, step by step.
use Rattle.std.proofs.Common.{◌≡◌, ◌<◌, ◌+◌, ◌^◌, ℕ, List, [], ◌∷◌, ◌++◌, length, take, drop, All, Option, Some, None, option_and_then, Ok, Err, ap, ap₂, sym, subst, ◌∙◌, inl, inr}
use Rattle.std.specs.Map.{lookup}
use Rattle.std.proofs.lemmas.List.{append-nil, append_assoc, length-append, length-take-le, take-append-drop}
use Rattle.std.proofs.lemmas.List.Elements.{All-head, All-tail}
use Rattle.tg_bytes.specs.Told.{after_front, IsNothing}
use Rattle.tg_varint.specs.Laws.{SpellingLaws}
use Rattle.tg_cid.specs.Limits.{max_block_len}
use Rattle.tg_car.specs.History.{ArePlaced, GoesOn, History, IsGivenOf, StopsAt, given_by, with_end, with_feed}
use Rattle.tg_car.specs.Faults.{HasEndCause}
use Rattle.tg_car.specs.Laws.{CarLaws}
use Rattle.tg_car.specs.State.{ReaderState, StandsFor}
use Rattle.tg_car.specs.declared.event.Event.{Event}
use Rattle.tg_car.specs.declared.event.Event.TheVariants as events
use Rattle.tg_car.specs.declared.fault.CarFault.{CarFault}
use Rattle.tg_files.specs.Packs.{PackMeaning, PackQuiet, PackStep, ReadAt, pack_step, rest_at}
use Rattle.tg_bytes.specs.ToldLaws.{after_front-after_front, after_front-nothing}
use Rattle.tg_store.specs.declared.fault.PackFault.{PackFault}
use Rattle.tg_store.specs.declared.fault.PackFault.TheVariants as faults
use Rattle.tg_store.specs.declared.key.Key.{Key}
use Rattle.tg_store.specs.declared.place.Place.{Place}
use Rattle.tg_store.specs.Attaching.{HasCauseIn, HasPackCause, HasStopCause, IsAlong, IsFound, IsGoodEvent, IsNamed, IsNotNoted, IsReadTo, IsRefusal, IsSmall, Noted, first_place, pack_fault}
use Rattle.tg_store.specs.Entries.{checked}
use Rattle.tg_store.specs.Keys.{found_by, key_of, same_key}
use Rattle.tg_store.specs.Packs.{block_at}
use Rattle.tg_store.proofs.Events.{noted_more, placed_first, placed_good, placed_named, placed_once, placed_small}
use Rattle.tg_store.proofs.Appending.{rose_after}
use Rattle.tg_store.proofs.Stopping.{CidsOnce, IsUnfinishedHeader, end_cause, finished_roots, stop_cause, unfinished_cause, wrong_cause}

-- the history of bytes that were taken
abbrev pub history : List ℕ → List Event → History
history fed given = record { fed = fed; given = given; stop = None }

module _ (laws : CarLaws) (unfinished : IsUnfinishedHeader) (spellings : SpellingLaws) (cids : CidsOnce) (reader new : ReaderState) (fed piece : List ℕ) where
  -- the reader refused the piece
  pub refused : (places : List (Key × Place)) (fault : CarFault) → ((h : History) → StandsFor reader h → StandsFor new (with_feed h piece (Err fault))) → new.limit ≡ reader.limit
      → IsAlong reader places fed → HasStopCause (fed ++ piece) (pack_fault fault)
  refused places fault says limit along =
      let stands = says (history fed along.given) along.stands in
      let stops : StopsAt new.limit fed along.given piece fault = stands.exact.stopped in
      stop_cause laws unfinished spellings cids fed along.given piece fault (subst (λ n. StopsAt n fed along.given piece fault) (limit ∙ along.limit) stops) along.noted.good

  -- what it gave isn't good
  pub not_noted : (places : List (Key × Place)) (taken : ℕ) (event : Event) (fault : PackFault) → ((h : History) → StandsFor reader h → StandsFor new (with_feed h piece (Ok (taken, event))))
      → new.limit ≡ reader.limit → IsAlong reader places fed → IsNotNoted event fault → HasStopCause (fed ++ piece) fault
  not_noted places taken event fault says limit along not =
      let stands = says (history fed along.given) along.stands in
      let goes : GoesOn max_block_len (fed ++ take taken piece) (along.given ++ given_by event) =
      subst (λ n. GoesOn n (fed ++ take taken piece) (along.given ++ given_by event)) (limit ∙ along.limit) stands.exact.goes_on in
      let whole : (fed ++ take taken piece) ++ drop taken piece ≡ fed ++ piece =
      append_assoc fed (take taken piece) (drop taken piece) ∙ ap (λ (l : List ℕ). fed ++ l) (take-append-drop taken piece) in
      subst (λ (l : List ℕ). HasStopCause l fault) whole (by event fault goes not)
    where
      by : (event : Event) (fault : PackFault) → GoesOn max_block_len (fed ++ take taken piece) (along.given ++ given_by event) → IsNotNoted event fault
          → HasStopCause ((fed ++ take taken piece) ++ drop taken piece) fault
      by event faults.OutOfMemory goes not = tt
      by (events.Header header) faults.Unfinished goes not = unfinished_cause laws unfinished (fed ++ take taken piece) (drop taken piece) along.given header goes not
      by (events.Section at size section) (faults.BadDigest place) goes not =
          subst (λ k. HasStopCause ((fed ++ take taken piece) ++ drop taken piece) (faults.BadDigest k)) (sym not.0)
          (wrong_cause laws unfinished (fed ++ take taken piece) (drop taken piece) along.given at size section goes along.noted.good not.1)
      by event fault goes not = absurd not

  -- what it gave was noted
  pub went_on : (before after : List (Key × Place)) (taken : ℕ) (event : Event) → ((h : History) → StandsFor reader h → StandsFor new (with_feed h piece (Ok (taken, event))))
      → new.limit ≡ reader.limit → IsAlong reader before fed → Noted (given_by event) before after → IsAlong new after (fed ++ take taken piece)
  went_on before after taken event says limit along noted = record {
    given = along.given ++ given_by event;
    stands = says (history fed along.given) along.stands;
    limit = limit ∙ along.limit;
    noted = noted_more along.given (given_by event) [] before after along.noted noted;
  }

-- ---- the end

module _ (laws : CarLaws) (unfinished : IsUnfinishedHeader) (reader : ReaderState) (places : List (Key × Place)) (fed : List ℕ) (along : IsAlong reader places fed) where
  pub ended_inside : (new : ReaderState) (fault : CarFault) → ((h : History) → StandsFor reader h → StandsFor new (with_end {A = Unit {0}} h (Err fault))) → new.limit ≡ reader.limit
      → HasPackCause fed (pack_fault fault)
  ended_inside new fault says limit =
      let stands = says (history fed along.given) along.stands in
      let cause : HasEndCause new.limit fed fault = stands.exact.stopped in
      let goes : GoesOn new.limit fed along.given = stands.exact.goes_on in
      end_cause laws unfinished fed along.given fault (subst (λ n. GoesOn n fed along.given) (limit ∙ along.limit) goes) along.noted.good
      (subst (λ n. HasEndCause n fed fault) (limit ∙ along.limit) cause)

  -- the sections are no larger than blocks may be
  small_sections : (g : IsGivenOf fed along.given) → All IsSmall g.sections
  small_sections g = by (subst (λ n. GoesOn n fed along.given) along.limit along.stands.exact.goes_on)
    where
      by : GoesOn max_block_len fed along.given → All IsSmall g.sections
      by (inl before) = cc (before.nothing_given, g.given_is)
      by (inr (rest, a)) =
          let placed : g.placed ≡ a.placed = let both : events.Header g.text.header ∷ g.placed ≡ events.Header a.reaches.header ∷ a.placed = sym g.given_is ∙ a.given_is in cc both in
          let sections : a.sections ≡ g.sections =
          placed_once (length a.reaches.header) (length g.text.header) a.sections g.sections a.reaches.done g.text.rest a.placed a.placed_are
          (subst (ArePlaced (length g.text.header) g.sections g.text.rest) placed g.placed_are) in
          subst (All IsSmall) sections a.reaches.within

  pub ended : (end : ℕ) → IsGivenOf fed along.given → length fed ≡ end → length fed < 2 ^ 64 → IsFound (Some fed) places end
  ended end g size fits =
      let header : List ℕ = g.text.header in
      let all : All IsGoodEvent (events.Header header ∷ g.placed) = subst (All IsGoodEvent) g.given_is along.noted.good in
      let small : All IsSmall g.sections = small_sections g in
      let named : All IsNamed g.sections =
      placed_named (length header) g.sections g.text.rest g.placed g.placed_are (All-tail IsGoodEvent (events.Header header) g.placed all) in
      let there : (key : Key) → lookup (same_key key) places ≡ first_place key g.placed = λ key. along.noted.found key ∙ ap (first_place key) g.given_is in
      record {
        small = λ key place found. placed_small (length header) g.sections g.text.rest g.placed g.placed_are small key place (sym (there key) ∙ found);
        found = (
          record {
            end_is = sym size;
            within = λ key place found. (placed_good fed header g.sections g.text.rest g.placed g.text.whole fits g.placed_are small named key place (sym (there key) ∙ found)).0;
            good = λ key place found. (placed_good fed header g.sections g.text.rest g.placed g.text.whole fits g.placed_are small named key place (sym (there key) ∙ found)).1;
            one_root = λ is. cc is;
            behind = λ is. cc is;
          },
          record {
            roots = g.roots;
            sections = g.sections;
            text = g.text;
            finished = finished_roots laws unfinished g.roots header g.text.header_is (All-head IsGoodEvent (events.Header header) g.placed all);
            named = named;
            small = small;
            stored = λ cid. ap (found_by cid.hash cid.digest)
                (ap (option_and_then (λ (p : Place). checked (key_of cid) (block_at fed p))) (there (key_of cid))
                ∙ placed_first fed header g.sections g.text.rest g.placed g.text.whole fits g.placed_are small named (key_of cid));
          },
        );
      }

-- ---- the content as far as it is told

-- a cause stays where more bytes follow
pub cause_more : (bytes more : List ℕ) (fault : PackFault) → HasStopCause bytes fault → HasStopCause (bytes ++ more) fault
cause_more bytes more (faults.NotCar at) (inl n) = inl (record {
  front = n.front;
  more = n.more ++ more;
  whole = ap (λ (l : List ℕ). l ++ more) n.whole ∙ append_assoc n.front n.more more;
  at_is = n.at_is;
  broken = n.broken;
})
cause_more bytes more (faults.NotCar at) (inr n) = inr (record {
  front = n.front;
  more = n.more ++ more;
  whole = ap (λ (l : List ℕ). l ++ more) n.whole ∙ append_assoc n.front n.more more;
  place = n.place;
  at_is = n.at_is;
  broken = n.broken;
  sound = n.sound;
})
cause_more bytes more (faults.BadDigest at) n = record {
  front = n.front;
  text = n.text;
  more = n.more ++ more;
  sections = n.sections;
  section = n.section;
  whole = ap (λ (l : List ℕ). l ++ more) n.whole ∙ (append_assoc n.front (n.text ++ n.more) more ∙ ap (λ (l : List ℕ). n.front ++ l) (append_assoc n.text n.more more));
  at_is = n.at_is;
  reaches = n.reaches;
  sound = n.sound;
  text_is = n.text_is;
  small = n.small;
  wrong = n.wrong;
}
cause_more bytes more faults.Unfinished n = record {
  header = n.header;
  rest = n.rest ++ more;
  whole = ap (λ (l : List ℕ). l ++ more) n.whole ∙ append_assoc n.header n.rest more;
  text = n.text;
}
cause_more bytes more (faults.Truncated at) n = absurd n
cause_more bytes more faults.Failed n = absurd n
cause_more bytes more (faults.BlockLimit at) n = record {
  front = n.front;
  more = n.more ++ more;
  whole = ap (λ (l : List ℕ). l ++ more) n.whole ∙ append_assoc n.front n.more more;
  place = n.place;
  at_is = n.at_is;
  passes = n.passes;
  sound = n.sound;
}
cause_more bytes more faults.OutOfMemory n = tt

-- what a told content begins with
pub told_front : (content bytes : List ℕ) (rest : Option (List ℕ)) → Some content ≡ after_front bytes rest → (more : List ℕ) × (content ≡ bytes ++ more)
told_front content bytes None e = cc e
told_front content bytes (Some more) e = (more, cc e)

-- a refusal of what was read is one of the content
pub stop_refusal : (step : PackStep) (bytes : List ℕ) (rest : Option (List ℕ)) (fault : PackFault) → rest_at step.content_old 0 ≡ after_front bytes rest
    → PackQuiet step → HasStopCause bytes fault → IsRefusal step fault
stop_refusal step bytes rest fault e quiet cause = by fault (told step.content_old e) cause
  where
    told : (held : Option (List ℕ)) → rest_at held 0 ≡ after_front bytes rest → (fault : PackFault) → HasStopCause bytes fault → (HasStopCause bytes fault → (more : List ℕ) → HasPackCause (bytes ++ more) fault) → HasCauseIn held fault
    told None e fault cause then = tt
    told (Some content) e fault cause then =
        let front = told_front content bytes rest e in
        subst (λ (l : List ℕ). HasPackCause l fault) (sym front.1) (then cause front.0)

    by : (fault : PackFault) → ((fault : PackFault) → HasStopCause bytes fault → (HasStopCause bytes fault → (more : List ℕ) → HasPackCause (bytes ++ more) fault) → HasCauseIn step.content_old fault)
        → HasStopCause bytes fault → IsRefusal step fault
    by (faults.NotCar at) t cause = (quiet, t (faults.NotCar at) cause (λ c more. cause_more bytes more (faults.NotCar at) c))
    by (faults.BadDigest at) t cause = (quiet, t (faults.BadDigest at) cause (λ c more. cause_more bytes more (faults.BadDigest at) c))
    by faults.Unfinished t cause = (quiet, t faults.Unfinished cause (λ c more. cause_more bytes more faults.Unfinished c))
    by (faults.Truncated at) t cause = absurd cause
    by faults.Failed t cause = absurd cause
    by (faults.BlockLimit at) t cause = (quiet, t (faults.BlockLimit at) cause (λ c more. cause_more bytes more (faults.BlockLimit at) c))
    by faults.OutOfMemory t cause = quiet

-- the cause of a refusal at the end
pub end_refusal : (step : PackStep) (bytes : List ℕ) (end : ℕ) (fault : PackFault) → rest_at step.content_old 0 ≡ after_front bytes (rest_at step.content_old end)
    → IsNothing (rest_at step.content_old end) → PackQuiet step → HasPackCause bytes fault → IsRefusal step fault
end_refusal step bytes end fault e nothing quiet cause = by fault (told step.content_old e nothing fault cause) cause
  where
    told : (held : Option (List ℕ)) → rest_at held 0 ≡ after_front bytes (rest_at held end) → IsNothing (rest_at held end) → (fault : PackFault) → HasPackCause bytes fault → HasCauseIn held fault
    told None e nothing fault cause = tt
    told (Some content) e nothing fault cause =
        let whole : content ≡ bytes ++ drop end content = cc e in
        let same : content ≡ bytes = whole ∙ (ap (λ (l : List ℕ). bytes ++ l) nothing ∙ append-nil bytes) in
        subst (λ (l : List ℕ). HasPackCause l fault) (sym same) cause

    by : (fault : PackFault) → HasCauseIn step.content_old fault → HasPackCause bytes fault → IsRefusal step fault
    by (faults.NotCar at) t cause = (quiet, t)
    by (faults.BadDigest at) t cause = (quiet, t)
    by faults.Unfinished t cause = (quiet, t)
    by (faults.Truncated at) t cause = (quiet, t)
    by faults.Failed t cause = absurd cause
    by (faults.BlockLimit at) t cause = (quiet, t)
    by faults.OutOfMemory t cause = absurd cause

-- what is found in a content that was read whole
pub found_whole : (held : Option (List ℕ)) (bytes : List ℕ) (read : ℕ) (places : List (Key × Place)) (end : ℕ) → rest_at held 0 ≡ after_front bytes (rest_at held read)
    → IsNothing (rest_at held read) → IsFound (Some bytes) places end → IsFound held places end
found_whole None bytes read places end e nothing found = record { small = found.small; found = tt }
found_whole (Some content) bytes read places end e nothing found =
    let whole : content ≡ bytes ++ drop read content = cc e in
    let same : content ≡ bytes = whole ∙ (ap (λ (l : List ℕ). bytes ++ l) nothing ∙ append-nil bytes) in
    subst (λ (l : List ℕ). IsFound (Some l) places end) (sym same) found

-- nothing was read yet
pub begun : (reader : ReaderState) (places : List (Key × Place)) (told : Option (List ℕ)) (end : ℕ) → IsAlong reader places [] → end ≡ 0 → IsReadTo reader places told end
begun reader places told end along none = record {
  fed = [];
  along = along;
  size = sym none;
  front = after_front-nothing (rest_at told 0) ∙ ap (λ n. after_front [] (rest_at told n)) (sym none);
}

-- what was read, with one piece more
pub read_front : (reader : ReaderState) (places : List (Key × Place)) (told : Option (List ℕ)) (end count : ℕ) (buf : List ℕ) → (at : IsReadTo reader places told end)
    → ReadAt told end count buf → rest_at told 0 ≡ after_front (at.fed ++ take count buf) (rest_at told (end + count))
read_front reader places told end count buf at read =
    at.front ∙ (ap (after_front at.fed) read.bytes ∙ after_front-after_front at.fed (take count buf) (rest_at told (end + count)))

-- a refusal stays one where nothing was done to the pack before
pub refusal_since : {S : Type 0} (m : PackMeaning S) (a b c : S) (fault : PackFault) → m.content b ≡ m.content a → PackQuiet (pack_step m a b) → IsRefusal (pack_step m b c) fault
    → IsRefusal (pack_step m a c) fault
refusal_since m a b c fault same quiet refusal = by fault refusal
  where
    moved : PackQuiet (pack_step m b c) → PackQuiet (pack_step m a c)
    moved later = later ∙ quiet

    by : (fault : PackFault) → IsRefusal (pack_step m b c) fault → IsRefusal (pack_step m a c) fault
    by (faults.NotCar at) r = (moved r.0, subst (λ (o : Option (List ℕ)). HasCauseIn o (faults.NotCar at)) same r.1)
    by (faults.BadDigest at) r = (moved r.0, subst (λ (o : Option (List ℕ)). HasCauseIn o (faults.BadDigest at)) same r.1)
    by faults.Unfinished r = (moved r.0, subst (λ (o : Option (List ℕ)). HasCauseIn o faults.Unfinished) same r.1)
    by (faults.Truncated at) r = (moved r.0, subst (λ (o : Option (List ℕ)). HasCauseIn o (faults.Truncated at)) same r.1)
    by faults.Failed r = rose_after m a b c quiet r
    by (faults.BlockLimit at) r = (moved r.0, subst (λ (o : Option (List ℕ)). HasCauseIn o (faults.BlockLimit at)) same r.1)
    by faults.OutOfMemory r = moved r

-- one piece more was read
pub read_on : (reader new : ReaderState) (before after : List (Key × Place)) (told : Option (List ℕ)) (end count : ℕ) (buf : List ℕ) → (at : IsReadTo reader before told end)
    → ReadAt told end count buf → IsAlong new after (at.fed ++ take count buf) → IsReadTo new after told (end + count)
read_on reader new before after told end count buf at read along = record {
  fed = at.fed ++ take count buf;
  along = along;
  size = length-append at.fed (take count buf) ∙ ap₂ (λ m n. m + n) at.size (length-take-le count buf read.within);
  front = read_front reader before told end count buf at read;
}
