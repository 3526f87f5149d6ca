-- What the end of a run says of each sound DAG with its root.
use Rattle.std.proofs.Common.{All, Err, List, Ok, Option, Result, [], ap, append_assoc, drop, inl, inr, refl, subst, suc, sym, take, zero, ℕ, ◌++◌, ◌<◌, ◌∙◌, ◌≡◌, ◌⊎◌}
use Rattle.std.proofs.lemmas.List.{take-append-drop}
use Rattle.std.proofs.lemmas.List.Elements.{All-contains}
use Rattle.std.specs.Prelude.{IfSome, ⊤}
use Rattle.tg_dials.specs.Dials.{Dialling}
use Rattle.tg_fetch.specs.Received as received
use Rattle.tg_fetch.specs.Received.{AreReceived}
use Rattle.tg_model.specs.Content.{content}
use Rattle.tg_model.specs.Dag.{Dag, bare, node, root_cid, unopened}
use Rattle.tg_model.specs.Fits.{CollisionPair}
use Rattle.tg_model.specs.Queries.{QueryParts}
use Rattle.tg_model.specs.Sound.{IsFileKind, IsSound}
use Rattle.tg_model.specs.declared.kinds.Kind.{Kind}
use Rattle.tg_model_laws.specs.FileSizes.{HasFileRoot}
use Rattle.tg_parts.specs.Connections.{Connection, IsRootOfFile, all_sections}
use Rattle.tg_parts.specs.PartLaws.{RootIs, RootIsRead, SaysRoot, SaysTotal, TotalIsTold}
use Rattle.tg_query.specs.Requests.{request_text}
use Rattle.tg_streams.specs.Streams.{Output, Put}
use Rattle.tg_swarm.specs.Laws.{FrontsAreSound, IsFrontOfFile, IsPlannedFor, SaysOfSwarm, SwarmsAreSound}
use Rattle.tg_swarm.specs.Swarms.{StandsFor, SwarmState}
use Rattle.tg_swarm.specs.declared.fault.SwarmFault.{SwarmFault}
use Rattle.tg_swarm.specs.declared.fault.SwarmFault.TheVariants as faults
use Rattle.tg_swarm.specs.declared.swarm.Plan.{Plan}
use Rattle.tg_swarm.specs.declared.swarm.Plan.TheVariants as plans
use Rattle.tg_swarming.proofs.Calls.{has_call, tells_of}
use Rattle.tg_swarming.specs.Rounds.{DialTells, FrontPut, IsFor, IsOver, OutStops, Over, RunOver, Setup, StopsSo, SwarmEnds, WasHeardOn, WholePut}
use Rattle.tg_swarming.specs.Sound.{IsToldIn, SaysOfEnd, SoundRun}

-- ---- fronts of a file

none_front : (d : Dag) → IsFrontOfFile [] d
none_front d = record { front = λ file. (content d, refl); none = λ no. refl }

take_none : (count : ℕ) (text : List ℕ) → text ≡ [] → take count text ≡ []
take_none zero text none = refl
take_none (suc count) text none = ap (take (suc count)) none

-- so is a front of one
take_front : (count : ℕ) (text : List ℕ) (d : Dag) → IsFrontOfFile text d → IsFrontOfFile (take count text) d
take_front count text d f = record {
  front = λ file.
      let (rest, is) = f.front file in
      (drop count text ++ rest, is ∙ ap (λ (l : List ℕ). l ++ rest) (sym (take-append-drop count text)) ∙ append_assoc (take count text) (drop count text) rest);
  none = λ no. take_none count text (f.none no);
}

-- a file's root is of a file's kind
file_kind : (kind : Kind) (block : List ℕ) (d : Dag) → RootIs kind block d → HasFileRoot d → IsFileKind kind
file_kind kind block (unopened cid) is file = absurd is
file_kind kind block (bare section fault) is file = absurd is
file_kind kind block (node section other children) is file = subst (λ (k : Kind). IsFileKind k) (sym is.0) file

-- ---- the end

-- the laws of crates below
pub record SoundLaws : Type 0 where
  pub fronts : FrontsAreSound
  pub stands : SwarmsAreSound
  pub read : RootIsRead
  pub total : TotalIsTold

pub sound_laws : FrontsAreSound → SwarmsAreSound → RootIsRead → TotalIsTold → SoundLaws
sound_laws fronts stands read total = record { fronts = fronts; stands = stands; read = read; total = total }

-- what was put, and what that and the end say
pub record Says (connections : List Connection) (out : Output) (result : Result ⊤ SwarmFault) (d : Dag) : Type 0 where
  pub written : List ℕ
  pub put : Put written out
  pub says : (IsFrontOfFile written d × SaysOfEnd result written d) ⊎ CollisionPair (all_sections connections) d

-- why it ended
abbrev pub EndsWith : Setup → SwarmState → Dialling → Output → Result ⊤ SwarmFault → List Connection → List Over → ℕ → Type 0
EndsWith setup now dial out (Ok done) = WholePut setup now dial out
EndsWith setup now dial out (Err fault) = StopsSo setup now dial out fault

pub run_over : (setup : Setup) (now : SwarmState) (dial : Dialling) (out : Output) (result : Result ⊤ SwarmFault) → SwarmEnds setup now dial out result
    → RunOver setup dial (EndsWith setup now dial out result)
run_over setup now dial out (Ok done) ends = ends
run_over setup now dial out (Err fault) ends = ends

or_pair : {A B C : Type 0} → (A → B) → A ⊎ C → B ⊎ C
or_pair f (inl says) = inl (f says)
or_pair f (inr pair) = inr pair

module _ (laws : SoundLaws) (setup : Setup) (some : 0 < setup.part) (d : Dag) (sound : IsSound d) (root : root_cid d ≡ setup.root) (connections : List Connection) (out : Output) where
  swarm_says : (s : SwarmState) (written : List ℕ) → IsFor setup s → StandsFor s connections written → SaysOfSwarm s written d ⊎ CollisionPair (all_sections connections) d
  swarm_says s written is_for stands = laws.stands s connections written d (subst (λ (n : ℕ). 0 < n) (sym is_for.part) some) stands sound (root ∙ sym is_for.root)

  whole_says : (now : SwarmState) (dial : Dialling) (overs : List Over) (missed : ℕ) → WholePut setup now dial out connections overs missed → Says connections out (Ok tt) d
  whole_says now dial overs missed w = record {
    written = w.written;
    put = w.put;
    says = or_pair (λ says. (says.front, says.whole w.all)) (swarm_says now w.written w.is_for w.stands);
  }

  -- of the fault itself nothing is said
  front_says : (fault : SwarmFault) → ((written : List ℕ) → SaysOfEnd (Err fault) written d) → FrontPut setup connections out → Says connections out (Err fault) d
  front_says fault nothing f = record {
    written = f.written;
    put = f.put;
    says = or_pair (λ says. (says.front, nothing f.written)) (swarm_says f.s f.written f.is_for f.stands);
  }

  -- nothing was put
  none_says : {A : Type 0} (fault : SwarmFault) → (A → SaysOfEnd (Err fault) [] d) → Put [] out → A ⊎ CollisionPair (all_sections connections) d → Says connections out (Err fault) d
  none_says fault so put says = record { written = []; put = put; says = or_pair (λ root. (none_front d, so root)) says }

  -- out failed
  out_says : OutStops setup connections out → Says connections out (Err faults.SinkFault) d
  out_says o = record {
    written = take o.front.count o.text;
    put = o.front.put;
    says = or_pair (λ front. (take_front o.front.count o.text d front, tt))
        (subst (λ (cs : List Connection). IsFrontOfFile o.text d ⊎ CollisionPair (all_sections cs) d) o.connections_are
        (laws.fronts o.a o.job o.text d (subst (λ (n : ℕ). 0 < n) (sym o.part) some) (planned o.a.plan refl) o.answers sound (root ∙ sym o.root)));
  }
    where
      planned : (plan : Plan) → o.a.plan ≡ plan → IsPlannedFor o.a o.job o.text plan
      planned plans.Root is = ((o.raw is).0, λ one. (o.raw is).1)
      planned (plans.Parts total) is = subst (λ (cs : List Connection). IsRootOfFile o.a.root cs total) (sym o.connections_are) (o.file total is)

  stop_says : (now : SwarmState) (dial : Dialling) (overs : List Over) (missed : ℕ) (fault : SwarmFault) → StopsSo setup now dial out fault connections overs missed
      → Says connections out (Err fault) d
  stop_says now dial overs missed faults.NoPeerLeft e = front_says faults.NoPeerLeft (λ written. tt) e.front
  stop_says now dial overs missed faults.NotFile e =
      let (kind, reads, not) = e.says_so in
      none_says faults.NotFile (λ (says : SaysRoot setup.root e.block d). λ file. not (file_kind kind e.block d (says.read_as kind reads) file)) e.put
      (laws.read setup.root connections e.block d e.block_is sound root)
  stop_says now dial overs missed (faults.BadRoot fault) e =
      none_says (faults.BadRoot fault) (λ (says : SaysRoot setup.root e.block d). says.unread fault e.says_so) e.put
      (laws.read setup.root connections e.block d e.block_is sound root)
  stop_says now dial overs missed (faults.Limit kind number) (kind_is, number_is, e) =
      let (total, is, above) = e.says_so in
      none_says (faults.Limit kind number) (λ (says : SaysTotal total d). (says.file, subst (λ (n : ℕ). number < n) (sym says.total_is) above)) e.put
      (laws.total setup.root connections total d is sound root)
  stop_says now dial overs missed faults.SinkFault e = out_says e
  stop_says now dial overs missed faults.OutOfMemory e = front_says faults.OutOfMemory (λ written. tt) e

  pub end_says : (now : SwarmState) (dial : Dialling) (overs : List Over) (missed : ℕ) (result : Result ⊤ SwarmFault) → EndsWith setup now dial out result connections overs missed
      → Says connections out result d
  end_says now dial overs missed (Ok done) e = whole_says now dial overs missed e
  end_says now dial overs missed (Err fault) e = stop_says now dial overs missed fault e

-- ---- the connections

told_in : (setup : Setup) (dial : Dialling) (overs : List Over) (missed : ℕ) (c : Connection) → DialTells dial overs missed → All (IsOver setup dial.dialled) overs → WasHeardOn overs c
    → IsToldIn setup dial c
told_in setup dial overs missed c tells are h = λ before calls old new.
    let (call, among, is) = has_call dial overs missed before calls h.over tells old new h.among in
    let of = tells_of h.over.link call is in
    let o = All-contains (IsOver setup dial.dialled) overs h.over are h.among in (
      call,
      among,
      subst (λ (heard : Option (List ℕ)). IfSome heard (λ told. told ≡ c.heard)) of.heard h.heard,
      λ well. (
        h.over.addr,
        o.peer,
        subst (λ (said : Option (List ℕ)). IfSome said (λ told. told ≡ request_text h.over.query h.over.addr)) of.said (o.whole (sym of.failed ∙ well))
            ∙ ap (λ (q : QueryParts). request_text q h.over.addr) h.query,
      ),
    )

are_received : (limit : ℕ) (overs : List Over) (c : Connection) → WasHeardOn overs c → AreReceived limit c.heard c.query c.sections
are_received limit overs c h = let a = h.answered in received.carried a.front a.more a.ended a.whole a.answered.carries

-- ---- a run

pub vouched : SoundLaws → (setup : Setup) (now : SwarmState) (dial : Dialling) (out : Output) (result : Result ⊤ SwarmFault) → SwarmEnds setup now dial out result → 0 < setup.part
    → (d : Dag) → IsSound d → root_cid d ≡ setup.root → SoundRun setup dial out result d
vouched laws setup now dial out result ends some d sound root =
    let over = run_over setup now dial out result ends in
    let says = end_says laws setup some d sound root over.connections out now dial over.overs over.missed result over.ends_so in
    record {
      connections = over.connections;
      told = λ k c lt. told_in setup dial over.overs over.missed _ over.tells over.overs_are (over.heard k c lt);
      received = λ k c lt. are_received setup.limits.block over.overs _ (over.heard k c lt);
      written = says.written;
      put = says.put;
      says = says.says;
    }
