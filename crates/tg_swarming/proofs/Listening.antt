-- A peer that is heard, and one that is asked, from one moment to the next.
use Rattle.std.proofs.Common.{Err, IfOk, IfSome, List, None, Ok, Option, Result, Some, [], ap, arith, false, inl, inr, is_ok, length, length-set, refl, slice_set, subst, suc, sym, true, zero, ℕ, ◌++◌, ◌<◌, ◌∙◌, ◌≡◌, ◌≤◌}
use Rattle.std.proofs.lemmas.Bool.{cases_eq}
use Rattle.std.proofs.lemmas.Option.{slice_get_within}
use Rattle.std.specs.List.{slice_get}
use Rattle.std.specs.Prelude.{OnErr, OnOk, take}
use Rattle.tg_bytes.specs.Told.{IsNothing, grown}
use Rattle.tg_dials.specs.Dials.{Dialling, IsDialled, IsHungUp, KeepsCalls, KeepsMissed, at_dial}
use Rattle.tg_faults.specs.Faults.{Rose}
use Rattle.tg_faults.specs.declared.calls.Failed.{Failed}
use Rattle.tg_fetch.specs.declared.client.Client.{Client}
use Rattle.tg_links.specs.Links.{CountsAreOne, PutsAreSaid}
use Rattle.tg_links.specs.Views.{LinkView, is_failed, view_of}
use Rattle.tg_model.specs.Queries.{QueryParts}
use Rattle.tg_parts.specs.Connections.{Connection}
use Rattle.tg_parts.specs.PartLaws.{TotalsStay}
use Rattle.tg_query.specs.Requests.{request_text}
use Rattle.tg_streams.specs.Joining.{SinkJoins}
use Rattle.tg_streams.specs.Streams.{OutputQuiet, Put, PutFront, SinkMeaning, into}
use Rattle.tg_swarming.proofs.Hanging.{left_less, left_on}
use Rattle.tg_swarming.proofs.Running.{EventSays, RunsOrEnds, asked_busy, asked_lines, asked_run, back_runs, line_on, lines_left, lines_with, made_run, missed_runs, other_line, said_front, still_line, still_runs, whole_by}
use Rattle.tg_swarming.proofs.Telling.{DialledStay}
use Rattle.tg_swarming.specs.Rounds.{AreLeft, AreLines, Ended, GoOn, GoSo, HasAddr, HasHeard, HasRun, HasSaid, HasSaidFront, IsHeard, IsLine, IsRunning, IsWhole, Meanings, Over, Runs, Setup, StopsSo, WholePut, moment_of}
use Rattle.tg_swarm.specs.Swarms.{HasAsked, StandsFor, SwarmState, bytes_of, query_of}
use Rattle.tg_swarm.specs.declared.fault.SwarmFault.{SwarmFault}
use Rattle.tg_swarm.specs.declared.fault.SwarmFault.TheVariants as faults
use Rattle.tg_swarm.specs.declared.peers.Call.{Call}
use Rattle.tg_swarm.specs.declared.peers.Peer.TheVariants as kinds
use Rattle.tg_swarm.specs.declared.swarm.PeerEvent.{PeerEvent}
use Rattle.tg_swarm.specs.declared.swarm.PeerEvent.TheVariants as events
use Rattle.tg_verify.specs.declared.verifier.Progress.{Progress}
use Rattle.tg_verify.specs.declared.verifier.Progress.TheVariants as progresses

-- ---- a link's view

heard_on : (old new : Option (List ℕ)) (heard bytes : List ℕ) → new ≡ grown old bytes → IfSome old (λ told. told ≡ heard)
    → IfSome new (λ told. told ≡ heard ++ bytes)
heard_on (Some old) new heard bytes is h =
    subst (λ (o : Option (List ℕ)). IfSome o (λ told. told ≡ heard ++ bytes)) (sym is) (ap (λ (l : List ℕ). l ++ bytes) h)
heard_on None new heard bytes is h = subst (λ (o : Option (List ℕ)). IfSome o (λ told. told ≡ heard ++ bytes)) (sym is) tt

nothing_told : (old : Option (List ℕ)) → IsNothing old → IfSome old (λ told. told ≡ [])
nothing_told (Some old) h = h
nothing_told None h = tt

heard_none : (old new : Option (List ℕ)) → new ≡ old → IsNothing old → IfSome new (λ told. told ≡ [])
heard_none old new is h = subst (λ (o : Option (List ℕ)). IfSome o (λ told. told ≡ [])) (sym is) (nothing_told old h)

said_whole : (old new : Option (List ℕ)) (text : List ℕ) → new ≡ grown old text → IsNothing old → IfSome new (λ told. told ≡ text)
said_whole old new text is h = heard_on old new [] text is (nothing_told old h)

said_first : (old new : Option (List ℕ)) (count : ℕ) (text : List ℕ) → new ≡ grown old (take count text) → IsNothing old
    → IfSome new (λ told. (n : ℕ) × (told ≡ take n text))
said_first old (Some new) count text is h = (count, said_whole old (Some new) (take count text) is h)
said_first old None count text is h = tt

said_on : (old new : LinkView) (text : List ℕ) → new.said ≡ old.said → HasSaid old text → HasSaid new text
said_on old new text is h = subst (λ (o : Option (List ℕ)). IfSome o (λ told. told ≡ text)) (sym is) h

rose_failed : (old new : ℕ) → is_failed old ≡ false → Rose old new → is_failed new ≡ true
rose_failed zero zero whole rose = let up = rose (omega arith) in let no : ⊥ = omega (arith, up) in absurd no
rose_failed zero (suc new) whole rose = refl
rose_failed (suc old) new whole rose = absurd (let f : true ≡ false = whole in cc)

still_whole : (old new : ℕ) → new ≡ old → is_failed old ≡ false → is_failed new ≡ false
still_whole old new is whole = ap is_failed is ∙ whole

pub on_ok : {A E : Type 0} {P : Type 0} (r : Result A E) → is_ok r ≡ true → OnOk r P → P
on_ok (Ok x) ok h = h
on_ok (Err e) ok h = absurd (let f : false ≡ true = ok in cc)

pub on_err : {A E : Type 0} {P : Type 0} (r : Result A E) → is_ok r ≡ false → OnErr r P → P
on_err (Ok x) ok h = absurd (let f : true ≡ false = ok in cc)
on_err (Err e) ok h = h

module _ {D L S : Type 0} (m : Meanings D L S) where
  -- ---- a swarm ends as it stands

  module _ (setup : Setup) (first : D) (start : S) (now : SwarmState) (links : List (Option L)) (b : D) (s : S) (runs : Runs m setup first start (moment_of now links b s)) where
    ends_now : (ends : Dialling → List Connection → List Over → ℕ → Type 0) → ends (at_dial m.dial first b) runs.run.connections runs.run.overs runs.run.missed
        → Ended m setup first (moment_of now links b s) ends
    ends_now ends so = record {
      over = record {
        connections = runs.run.connections;
        overs = runs.run.overs;
        missed = runs.run.missed;
        tells = runs.run.tells;
        overs_are = runs.run.overs_are;
        heard = runs.run.heard;
        ends_so = so;
      };
      left = lines_left m.link m.source setup now (at_dial m.dial first b) (into m.sink start s) runs.run links runs.lines;
    }

    -- no memory was found
    pub ends_wanting : Ended m setup first (moment_of now links b s) (λ dial. StopsSo setup now dial (into m.sink start s) faults.OutOfMemory)
    ends_wanting = ends_now (λ dial. StopsSo setup now dial (into m.sink start s) faults.OutOfMemory) (record {
      s = now;
      is_for = runs.run.is_for;
      written = runs.run.written;
      stands = runs.run.stands;
      put = runs.run.put;
      quiet = runs.run.quiet;
    })

    -- the file is whole
    pub ends_whole : IsWhole now → Ended m setup first (moment_of now links b s) (λ dial. WholePut setup now dial (into m.sink start s))
    ends_whole whole = ends_now (λ dial. WholePut setup now dial (into m.sink start s)) (record {
      is_for = runs.run.is_for;
      written = runs.run.written;
      stands = runs.run.stands;
      all = whole;
      put = runs.run.put;
      quiet = runs.run.quiet;
      caused = runs.run.caused;
    })

  -- ---- a peer is heard

  pub whole_event : (which : Setup → Type 0) (links : List (Option L)) (b : D) (s t : S) (old new : SwarmState) (peer : ℕ) (event : PeerEvent)
      (result : Result Progress SwarmFault) (link : L) → EventSays m.sink s t old new peer event result → slice_get links peer ≡ Some (Some link)
      → IsRunning m which (moment_of old links b s) → IfOk result (λ progress. progress ≡ progresses.Done → IsWhole new)
  whole_event which links b s t old new peer event (Ok progress) link says there h =
      let line = h.runs.lines peer link there in
      let run = h.runs.run in
      let goes = says.ends run.connections run.written line.heard line.call run.stands line.busy line.stands in
      whole_by new progress goes.progress_is
  whole_event which links b s t old new peer event (Err fault) link says there h = tt

  -- whose link isn't there
  pub none_there : (which : Setup → Type 0) (now : SwarmState) (links : List (Option L)) (b : D) (s : S) (peer : ℕ) → peer < length links
      → GoOn m which (moment_of now links b s) (moment_of now (slice_set links peer None) b s)
  none_there which now links b s peer lt setup first start is runs = record {
    run = runs.run;
    lines = lines_with m.link m.source setup (m.dial.dialled first b) (m.dial.dialled first b) now now links peer None lt (λ other ne link line. line)
        (λ link no. absurd (cc no)) runs.lines;
    number = length-set links peer None ∙ runs.number;
  }

module _ {D L S : Type 0} (m : Meanings D L S) (joins : SinkJoins S m.sink) (totals : TotalsStay) where
  module _ (links : List (Option L)) (b : D) (s t : S) (old new : SwarmState) (peer : ℕ) (event : PeerEvent) (link next : L)
      (lt : peer < length links) (there : slice_get links peer ≡ Some (Some link)) (heard : IsHeard (view_of m.link m.source link) (view_of m.link m.source next) event) where
    -- its link goes on
    pub goes_still : (which : Setup → Type 0) (progress : Progress) → EventSays m.sink s t old new peer event (Ok progress) → (later : Call Client)
        → slice_get new.jobs.peers peer ≡ Some (kinds.Busy later)
        → GoOn m which (moment_of old links b s) (moment_of new (slice_set links peer (Some next)) b t)
    goes_still which progress says later is setup first start is_which runs =
        let line = runs.lines peer link there in
        let dialled = m.dial.dialled first b in
        record {
          run = still_runs m.dial m.sink joins totals setup first b b start s t old new peer event runs.run line.call line.busy line.heard line.stands progress says later is;
          lines = lines_with m.link m.source setup dialled dialled old new links peer (Some next) lt
              (λ other ne one its. other_line m.sink s t old new peer event (Ok progress) says setup runs.run.connections runs.run.written runs.run.stands
              line.call line.busy dialled dialled (λ addr was. was) other ne (view_of m.link m.source one) its)
              (λ one same.
              let e : next ≡ one = cc in
              subst (λ (x : L). IsLine setup dialled new peer (view_of m.link m.source x)) e
              (still_line m.dial m.sink joins totals setup first b b start s t old new peer event runs.run line.call line.busy line.heard line.stands
              line.addr line.addr_is (view_of m.link m.source next) line.dialled
              (said_on (view_of m.link m.source link) (view_of m.link m.source next) (request_text line.call.client.query line.addr) heard.said line.said)
              progress says later is (heard_on (m.link.heard link) (m.link.heard next) line.heard (bytes_of event) heard.heard line.heard_is)
              (whole event refl line.whole runs.run.stands)))
              runs.lines;
          number = length-set links peer (Some next) ∙ runs.number;
        }
      where
        whole : (e : PeerEvent) → e ≡ event → is_failed (m.source.faults link) ≡ false → StandsFor old runs.run.connections runs.run.written
            → is_failed (m.source.faults next) ≡ false
        whole (events.Piece piece) at was stands =
            still_whole (m.source.faults link) (m.source.faults next) (heard.quiet (λ no. let never : events.Piece piece ≡ events.Failed = at ∙ no in cc)) was
        whole events.Ended at was stands =
            still_whole (m.source.faults link) (m.source.faults next) (heard.quiet (λ no. let never : events.Ended ≡ events.Failed = at ∙ no in cc)) was
        whole events.Failed at was stands =
            let refused = says.failed (sym at) stands.going in
            let here = sym is ∙ refused in let no : ⊥ = cc in absurd no

    pub goes_still_so : (which : Setup → Type 0) (result : Result Progress SwarmFault) → is_ok result ≡ true → EventSays m.sink s t old new peer event result
        → ((later : Call Client) × (slice_get new.jobs.peers peer ≡ Some (kinds.Busy later)))
        → GoSo m which (moment_of old links b s) (moment_of new (slice_set links peer (Some next)) b t) result
    goes_still_so which (Ok progress) ok says (later, is) = goes_still which progress says later is
    goes_still_so which (Err fault) ok says busy = absurd (let f : false ≡ true = ok in cc)

    -- its link is given back
    module _ (which : Setup → Type 0) (c : D) (hung : IsHungUp (view_of m.link m.source next) (at_dial m.dial b c)) (keeps : KeepsMissed (at_dial m.dial b c))
        (stay : DialledStay m.dial b c) where
      back_there : (setup : Setup) (first : D) (start : S) → Runs m setup first start (moment_of old links b s) → (result : Result Progress SwarmFault)
          → EventSays m.sink s t old new peer event result → RunsOrEnds m.dial m.sink setup first start new c t result
      back_there setup first start runs result says =
          let line = runs.lines peer link there in
          let text = request_text line.call.client.query line.addr in
          let said = said_on (view_of m.link m.source link) (view_of m.link m.source next) text heard.said line.said in
          back_runs m.dial m.sink joins totals setup first b c start s t old new peer event runs.run line.call line.busy line.heard line.stands
          line.addr line.addr_is (view_of m.link m.source next) line.dialled (said_front (m.link.said next) text said) (λ _. said)
          (heard_on (m.link.heard link) (m.link.heard next) line.heard (bytes_of event) heard.heard line.heard_is) heard.ended
          (λ is. rose_failed (m.source.faults link) (m.source.faults next) line.whole (heard.failed is)) hung keeps stay result says

      pub goes_back : (result : Result Progress SwarmFault) → EventSays m.sink s t old new peer event result
          → GoSo m which (moment_of old links b s) (moment_of new (slice_set links peer None) c t) result
      goes_back (Ok progress) says = λ setup first start is_which runs.
          let line = runs.lines peer link there in
          record {
            run = (back_there setup first start runs (Ok progress) says).0;
            lines = lines_with m.link m.source setup (m.dial.dialled first b) (m.dial.dialled first c) old new links peer None lt
                (λ other ne one its. other_line m.sink s t old new peer event (Ok progress) says setup runs.run.connections runs.run.written runs.run.stands
                line.call line.busy (m.dial.dialled first b) (m.dial.dialled first c) (stay first) other ne (view_of m.link m.source one) its)
                (λ one no. absurd (cc no)) runs.lines;
            number = length-set links peer None ∙ runs.number;
          }
      goes_back (Err fault) says = λ setup first start is_which runs. record {
        over = back_there setup first start runs (Err fault) says;
        left = left_less m.link m.source setup links (m.dial.dialled first c) peer
            (left_on m.link m.source setup links (m.dial.dialled first b) (m.dial.dialled first c) (stay first)
            (lines_left m.link m.source setup old (at_dial m.dial first b) (into m.sink start s) runs.run links runs.lines));
      }

  -- ---- a peer is asked

  module _ (links : List (Option L)) (a : D) (s t : S) (old now new : SwarmState) (peer : ℕ) (addr : List ℕ) (q : QueryParts) (asked : HasAsked old now peer q)
      (stay : (connections : List Connection) (written : List ℕ) → StandsFor old connections written → StandsFor now connections written) where
    -- it is there
    within : (setup : Setup) (first : D) (start : S) → HasAddr peer addr setup → Runs m setup first start (moment_of old links a s) → peer < length old.jobs.peers
    within setup first start at runs = let lt = slice_get_within setup.addrs peer addr at in let number = runs.run.is_for.peers in omega (arith, lt, number)

    there_too : (setup : Setup) (first : D) (start : S) → HasAddr peer addr setup → Runs m setup first start (moment_of old links a s) → peer < length links
    there_too setup first start at runs = let lt = slice_get_within setup.addrs peer addr at in let number = runs.number in omega (arith, lt, number)

    -- and has no link
    unlinked : (setup : Setup) (first : D) (start : S) → Runs m setup first start (moment_of old links a s) → (link : L)
        → slice_get links peer ≡ Some (Some link) → ⊥
    unlinked setup first start runs link is = let here = sym (runs.lines peer link is).busy ∙ asked.idle in cc

    -- the query is that of its call
    query_is : (asked.call).client.query ≡ q
    query_is = asked.stands.query ∙ later old now asked.new_is ∙ sym asked.query_is
      where
        later : (x y : SwarmState) → y ≡ record x { jobs = record x.jobs { peers = slice_set x.jobs.peers peer (kinds.Busy asked.call) } }
            → query_of y (asked.call).job ≡ query_of x (asked.call).job
        later x y is = ap (λ (z : SwarmState). query_of z (asked.call).job) is

    module _ (setup : Setup) (first : D) (start : S) (at : HasAddr peer addr setup) (runs : Runs m setup first start (moment_of old links a s)) where
      run_now : HasRun setup now (at_dial m.dial first a) (into m.sink start s)
      run_now = asked_run old now peer q asked (within setup first start at runs) m.dial m.sink setup first a start s stay runs.run

      lines_now : AreLines m.link m.source setup (m.dial.dialled first a) now links
      lines_now = asked_lines old now peer q asked (within setup first start at runs) m.link m.source setup (m.dial.dialled first a) links runs.lines

      busy_now : slice_get now.jobs.peers peer ≡ Some (kinds.Busy asked.call)
      busy_now = asked_busy old now peer q asked (within setup first start at runs)

      -- the lines of the others behind an event, and where it ended
      module _ (c : D) (on : DialledStay m.dial a c) where
        lines_behind : (result : Result Progress SwarmFault) → EventSays m.sink s t now new peer events.Failed result
            → AreLines m.link m.source setup (m.dial.dialled first c) new links
        lines_behind result says other link is = elim (cases_eq other peer) [
          | inl e ↦ absurd (unlinked setup first start runs link (subst (λ (n : ℕ). slice_get links n ≡ Some (Some link)) e is))
          | inr ne ↦
              other_line m.sink s t now new peer events.Failed result says setup run_now.connections run_now.written run_now.stands asked.call busy_now
              (m.dial.dialled first a) (m.dial.dialled first c) (on first) other ne (view_of m.link m.source link) (lines_now other link is)
        ]

        left_behind : AreLeft m.link m.source setup (m.dial.dialled first c) links
        left_behind = left_on m.link m.source setup links (m.dial.dialled first a) (m.dial.dialled first c) (on first)
            (lines_left m.link m.source setup now (at_dial m.dial first a) (into m.sink start s) run_now links lines_now)

    pub goes_asked : GoOn m (HasAddr peer addr) (moment_of old links a s) (moment_of now links a s)
    goes_asked setup first start at runs =
        record { run = run_now setup first start at runs; lines = lines_now setup first start at runs; number = runs.number }

    -- an event ended it or not
    goes_by : (c : D) → DialledStay m.dial a c → (result : Result Progress SwarmFault) → EventSays m.sink s t now new peer events.Failed result
        → ((setup : Setup) (first : D) (start : S) → HasAddr peer addr setup → Runs m setup first start (moment_of old links a s)
        → RunsOrEnds m.dial m.sink setup first start new c t result)
        → GoSo m (HasAddr peer addr) (moment_of old links a s) (moment_of new links c t) result
    goes_by c on (Ok progress) says by = λ setup first start at runs.
        record { run = (by setup first start at runs).0; lines = lines_behind setup first start at runs c on (Ok progress) says; number = runs.number }
    goes_by c on (Err fault) says by = λ setup first start at runs.
        record { over = by setup first start at runs; left = left_behind setup first start at runs c on }

    -- the dial was missed
    pub goes_missed : (c : D) (fault : Failed) → IsDialled (at_dial m.dial a c) (Err fault) → KeepsCalls (at_dial m.dial a c) → m.dial.faults a ≤ m.dial.faults c
        → ((first : D) → m.dial.dialled first c addr) → DialledStay m.dial a c → (result : Result Progress SwarmFault)
        → EventSays m.sink s t now new peer events.Failed result → GoSo m (HasAddr peer addr) (moment_of old links a s) (moment_of new links c t) result
    goes_missed c fault dialled calls le address on result says = goes_by c on result says (λ setup first start at runs.
        missed_runs m.dial m.sink joins totals setup first a c start s t now new peer events.Failed (run_now setup first start at runs) asked.call
        (busy_now setup first start at runs) [] asked.stands addr at dialled.0 dialled.1 calls le (address first) on result says refl)

    module _ (sinks : SinkMeaning L) (puts : PutsAreSaid L m.link sinks) (one : CountsAreOne L m.source sinks) (b : D) (link next : L)
        (dialled : IsDialled (at_dial m.dial a b) (Ok (view_of m.link m.source link))) (calls : KeepsCalls (at_dial m.dial a b))
        (address : (first : D) → m.dial.dialled first b addr) (others : DialledStay m.dial a b) where
      run_made : (setup : Setup) (first : D) (start : S) → HasAddr peer addr setup → Runs m setup first start (moment_of old links a s)
          → HasRun setup now (at_dial m.dial first b) (into m.sink start s)
      run_made setup first start at runs = made_run m.dial m.sink setup first a b start s now dialled.1 dialled.2 calls others (run_now setup first start at runs)

      -- the request was put
      pub goes_made : Put (request_text q addr) (into sinks link next) → OutputQuiet (into sinks link next)
          → GoOn m (HasAddr peer addr) (moment_of old links a s) (moment_of now (slice_set links peer (Some next)) b s)
      goes_made put quiet setup first start at runs = record {
        run = run_made setup first start at runs;
        lines = lines_with m.link m.source setup (m.dial.dialled first a) (m.dial.dialled first b) now now links peer (Some next) (there_too setup first start at runs)
            (λ other ne x line. line_on setup (m.dial.dialled first a) (m.dial.dialled first b) (others first) now other (view_of m.link m.source x) line)
            (λ x same.
            let e : next ≡ x = cc in
            subst (λ (y : L). IsLine setup (m.dial.dialled first b) now peer (view_of m.link m.source y)) e (record {
              call = asked.call;
              busy = busy_now setup first start at runs;
              heard = [];
              stands = asked.stands;
              heard_is = heard_none (m.link.heard link) (m.link.heard next) (puts link next (request_text q addr) put.moved).heard dialled.0.heard;
              addr = addr;
              addr_is = at;
              dialled = address first;
              said = subst (λ (p : QueryParts). HasSaid (view_of m.link m.source next) (request_text p addr)) (sym query_is)
                  (said_whole (m.link.said link) (m.link.said next) (request_text q addr) (puts link next (request_text q addr) put.moved).said dialled.0.said);
              whole = ap is_failed (one next ∙ quiet ∙ sym (one link) ∙ dialled.0.faults);
            }))
            (lines_now setup first start at runs);
        number = length-set links peer (Some next) ∙ runs.number;
      }

      -- it wasn't put whole, and the link is given back
      module _ (front : PutFront (request_text q addr) (into sinks link next)) (c : D) (hung : IsHungUp (view_of m.link m.source next) (at_dial m.dial b c))
          (keeps : KeepsMissed (at_dial m.dial b c)) (stays : DialledStay m.dial b c) where
        said_some : HasSaidFront (view_of m.link m.source next) (request_text (asked.call).client.query addr)
        said_some = subst (λ (p : QueryParts). HasSaidFront (view_of m.link m.source next) (request_text p addr)) (sym query_is)
            (said_first (m.link.said link) (m.link.said next) front.count (request_text q addr)
            (puts link next (take front.count (request_text q addr)) front.put.moved).said dialled.0.said)

        heard_nothing : HasHeard (view_of m.link m.source next) []
        heard_nothing = heard_none (m.link.heard link) (m.link.heard next) (puts link next (take front.count (request_text q addr)) front.put.moved).heard dialled.0.heard

        has_failed : is_failed (m.source.faults next) ≡ true
        has_failed = rose_failed (m.source.faults link) (m.source.faults next) (ap is_failed dialled.0.faults)
            (subst (λ (n : ℕ). Rose n (m.source.faults next)) (sym (one link)) (subst (λ (n : ℕ). Rose (sinks.faults link) n) (sym (one next)) front.rose))

        pub goes_unput : (result : Result Progress SwarmFault) → EventSays m.sink s t now new peer events.Failed result
            → GoSo m (HasAddr peer addr) (moment_of old links a s) (moment_of new links c t) result
        goes_unput result says = goes_by c (λ first addr was. stays first addr (others first addr was)) result says (λ setup first start at runs.
            back_runs m.dial m.sink joins totals setup first b c start s t now new peer events.Failed (run_made setup first start at runs) asked.call
            (busy_now setup first start at runs) [] asked.stands addr at (view_of m.link m.source next) (address first) said_some
            (λ whole. let no : true ≡ false = sym has_failed ∙ whole in absurd (cc no)) heard_nothing (λ no. absurd (cc no)) (λ is. has_failed) hung keeps stays result says)

    pub whole_asked : (result : Result Progress SwarmFault) → EventSays m.sink s t now new peer events.Failed result
        → IsRunning m (HasAddr peer addr) (moment_of old links a s) → IfOk result (λ progress. progress ≡ progresses.Done → IsWhole new)
    whole_asked (Ok progress) says h =
        let run = run_now h.setup h.first h.start h.is_which h.runs in
        let goes = says.ends run.connections run.written [] asked.call run.stands (busy_now h.setup h.first h.start h.is_which h.runs) asked.stands in
        whole_by new progress goes.progress_is
    whole_asked (Err fault) says h = tt
