use Rattle.std.proofs.Common.{◌≡◌, ◌<◌, ◌≤◌, All, arith, length, Option, List, ℕ, inl, inr, subst, refl}
use Rattle.tg_app.specs.Commands.{CommandEnds, Ends, MakesNoFolder, TheCommand, UsesNoDial, UsesNoDoor}
use Rattle.tg_app.specs.Objects.{Objects}
use Rattle.tg_commands.specs.declared.fault.CommandFault.{CommandFault}
use Rattle.tg_query.specs.Requests.{IsAddr}
use Rattle.tg_words.specs.AuditLines.{AuditParts}
use Rattle.tg_words.specs.CommandLine.{CommandLine}
use Rattle.tg_words.specs.FetchLines.{FetchParts}
use Rattle.tg_words.specs.IntoLines.{FetchIntoParts}
use Rattle.tg_words.specs.MirrorLines.{MayRootPack, MirrorParts}
use Rattle.tg_words.specs.ServeLines.{ServeParts}
use Rattle.tg_words.specs.SwarmLines.{SwarmParts}
use Rattle.tg_words.specs.declared.Command.{Command}
use Rattle.tg_words.specs.declared.Command.TheVariants.{Audit, Fetch, FetchInto, Mirror, Serve, Swarm}
use Rattle.tg_app.proofs.top.command.Goals as goal

-- the words spell the command that was read alone, and it ended so
the_ends : {words : List (List ℕ)} {objects : Objects} {end : Option CommandFault} {read command : Command} → CommandLine words read → ((other : Command) → CommandLine words other → read ≡ other)
    → read ≡ command → CommandEnds command objects end → (MakesNoFolder command → objects.making.same) → (UsesNoDoor command → objects.door.same_door)
    → (UsesNoDial command → objects.dial.same_dial) → Ends words objects end
the_ends {words} {objects} {end} {read} {command} spelled only is ends making door dial =
    inr (inr (record { command = command; the = subst (TheCommand words) is (record { spelled = spelled; only = only }); ends = ends; making = making; door = door; dial = dial }))

-- the address of a spelled `fetch` is one
is_addr : (words : List (List ℕ)) (read : Command) (parts : FetchParts) → CommandLine words read → read ≡ Fetch parts → IsAddr parts.addr
is_addr words read parts spelled is = let line = subst (CommandLine words) is spelled in line.1.addr

-- and that of a spelled `fetch` with `--into`
is_into_addr : (words : List (List ℕ)) (read : Command) (parts : FetchIntoParts) → CommandLine words read → read ≡ FetchInto parts → IsAddr parts.addr
is_into_addr words read parts spelled is = let line = subst (CommandLine words) is spelled in line.1.addr

-- and that of a spelled `mirror`, whose root a pack may have
is_mirror_addr : (words : List (List ℕ)) (read : Command) (parts : MirrorParts) → CommandLine words read → read ≡ Mirror parts → IsAddr parts.addr
is_mirror_addr words read parts spelled is = let line = subst (CommandLine words) is spelled in line.1.addr

may_root : (words : List (List ℕ)) (read : Command) (parts : MirrorParts) → CommandLine words read → read ≡ Mirror parts → MayRootPack parts.root
may_root words read parts spelled is = let line = subst (CommandLine words) is spelled in line.1.may

-- the addresses of a spelled `swarm`, and how many bytes a part has
are_addrs : (words : List (List ℕ)) (read : Command) (parts : SwarmParts) → CommandLine words read → read ≡ Swarm parts → All IsAddr parts.addrs
are_addrs words read parts spelled is = let line = subst (CommandLine words) is spelled in line.1.addrs

few_addrs : (words : List (List ℕ)) (read : Command) (parts : SwarmParts) → CommandLine words read → read ≡ Swarm parts
    → (1 ≤ length parts.addrs) × (length parts.addrs ≤ 16)
few_addrs words read parts spelled is = let line = subst (CommandLine words) is spelled in (line.1.some, line.1.most)

is_part : (words : List (List ℕ)) (read : Command) (parts : SwarmParts) → CommandLine words read → read ≡ Swarm parts → (1 ≤ parts.part) × (parts.part ≤ 16777216)
is_part words read parts spelled is = let line = subst (CommandLine words) is spelled in (line.1.part.least, line.1.part.most)

-- the number of lanes of a spelled `serve`
some_lanes : (words : List (List ℕ)) (read : Command) (parts : ServeParts) → CommandLine words read → read ≡ Serve parts → 1 ≤ parts.lanes
some_lanes words read parts spelled is = let line = subst (CommandLine words) is spelled in line.1.lanes.least

few_lanes : (words : List (List ℕ)) (read : Command) (parts : ServeParts) → CommandLine words read → read ≡ Serve parts → parts.lanes ≤ 64
few_lanes words read parts spelled is = let line = subst (CommandLine words) is spelled in line.1.lanes.most

pub serve-requires-clause-lanes : goal.serve-requires-clause-lanes
serve-requires-clause-lanes g c =
    (some_lanes _ _ _ c.in_ok-cid.ensures.found c.in-Serve.is, few_lanes _ _ _ c.in_ok-cid.ensures.found c.in-Serve.is)

pub fetch_answer-requires : goal.fetch_answer-requires
fetch_answer-requires g c = is_addr _ _ _ c.in_ok-cid.ensures.found c.in-Fetch.is

pub fetch_into-requires : goal.fetch_into-requires
fetch_into-requires g c = is_into_addr _ _ _ c.in_ok-cid.ensures.found c.in-FetchInto.is

pub mirror_dag-requires-clause-addr : goal.mirror_dag-requires-clause-addr
mirror_dag-requires-clause-addr g c = is_mirror_addr _ _ _ c.in_ok-cid.ensures.found c.in-Mirror.is

pub mirror_dag-requires-clause-root : goal.mirror_dag-requires-clause-root
mirror_dag-requires-clause-root g c = may_root _ _ _ c.in_ok-cid.ensures.found c.in-Mirror.is

pub swarm_file-requires-clause-addrs : goal.swarm_file-requires-clause-addrs
swarm_file-requires-clause-addrs g c = are_addrs _ _ _ c.in_ok-cid.ensures.found c.in-Swarm.is

pub swarm_file-requires-clause-number : goal.swarm_file-requires-clause-number
swarm_file-requires-clause-number g c = few_addrs _ _ _ c.in_ok-cid.ensures.found c.in-Swarm.is

pub swarm_file-requires-clause-part : goal.swarm_file-requires-clause-part
swarm_file-requires-clause-part g c = is_part _ _ _ c.in_ok-cid.ensures.found c.in-Swarm.is

pub returns-in-Check-clause-ends : goal.returns-in-Check-clause-ends
returns-in-Check-clause-ends g c =
    the_ends c.in_ok-cid.ensures.found c.in_ok-cid.ensures.only c.in-Check.is (record { folder = refl; pack = refl }, c.check.ensures) (λ none. refl) (λ none. refl) (λ none. refl)

pub returns-in-Node-clause-ends : goal.returns-in-Node-clause-ends
returns-in-Node-clause-ends g c =
    the_ends c.in_ok-cid.ensures.found c.in_ok-cid.ensures.only c.in-Node.is (record { folder = refl; pack = refl }, c.node.ensures) (λ none. refl) (λ none. refl) (λ none. refl)

pub returns-in-CidToHex-clause-ends : goal.returns-in-CidToHex-clause-ends
returns-in-CidToHex-clause-ends g c =
    the_ends c.in_ok-cid.ensures.found c.in_ok-cid.ensures.only c.in-CidToHex.is
    (record { folder = refl; pack = refl }, record { untaken = record { moved = g.met.I.Source.rests _; left = refl }; quiet = refl }, c.cid_to_hex.ensures)
    (λ none. refl) (λ none. refl) (λ none. refl)

pub returns-in-CidToText-clause-ends : goal.returns-in-CidToText-clause-ends
returns-in-CidToText-clause-ends g c =
    the_ends c.in_ok-cid.ensures.found c.in_ok-cid.ensures.only c.in-CidToText.is
    (record { folder = refl; pack = refl }, record { untaken = record { moved = g.met.I.Source.rests _; left = refl }; quiet = refl }, c.cid_to_text.ensures) (λ none. refl) (λ none. refl) (λ none. refl)

pub returns-in-Export-clause-ends : goal.returns-in-Export-clause-ends
returns-in-Export-clause-ends g c =
    the_ends c.in_ok-cid.ensures.found c.in_ok-cid.ensures.only c.in-Export.is
    (refl, record { untaken = record { moved = g.met.I.Source.rests _; left = refl }; quiet = refl }, c.export.ensures.ends) (λ none. refl) (λ none. refl) (λ none. refl)

pub returns-in-Import-clause-ends : goal.returns-in-Import-clause-ends
returns-in-Import-clause-ends g c =
    the_ends c.in_ok-cid.ensures.found c.in_ok-cid.ensures.only c.in-Import.is
    (record { untaken = record { moved = g.met.I.Source.rests _; left = refl }; quiet = refl }, c.import.ensures.ends) (λ none. refl) (λ none. refl) (λ none. refl)

pub returns-in-Verify-clause-ends : goal.returns-in-Verify-clause-ends
returns-in-Verify-clause-ends g c =
    the_ends c.in_ok-cid.ensures.found c.in_ok-cid.ensures.only c.in-Verify.is (record { folder = refl; pack = refl }, c.verify.ensures) (λ none. refl) (λ none. refl) (λ none. refl)

pub returns-in-VerifyInto-clause-ends : goal.returns-in-VerifyInto-clause-ends
returns-in-VerifyInto-clause-ends g c =
    the_ends c.in_ok-cid.ensures.found c.in_ok-cid.ensures.only c.in-VerifyInto.is (record { folder = refl; pack = refl }, c.verify_into.ensures) (λ uses. absurd uses) (λ none. refl) (λ none. refl)

pub returns-in-Serve-clause-ends : goal.returns-in-Serve-clause-ends
returns-in-Serve-clause-ends g c =
    the_ends c.in_ok-cid.ensures.found c.in_ok-cid.ensures.only c.in-Serve.is
    (refl, record { untaken = record { moved = g.met.I.Source.rests _; left = refl }; quiet = refl }, c.serve.ensures.ends) (λ none. refl) (λ uses. absurd uses) (λ none. refl)

pub returns-in-Fetch-clause-ends : goal.returns-in-Fetch-clause-ends
returns-in-Fetch-clause-ends g c =
    the_ends c.in_ok-cid.ensures.found c.in_ok-cid.ensures.only c.in-Fetch.is
    (record { folder = refl; pack = refl }, record { untaken = record { moved = g.met.I.Source.rests _; left = refl }; quiet = refl }, c.fetch_answer.ensures)
    (λ none. refl) (λ none. refl) (λ uses. absurd uses)

pub returns-in-FetchInto-clause-ends : goal.returns-in-FetchInto-clause-ends
returns-in-FetchInto-clause-ends g c =
    the_ends c.in_ok-cid.ensures.found c.in_ok-cid.ensures.only c.in-FetchInto.is
    (record { folder = refl; pack = refl }, record { untaken = record { moved = g.met.I.Source.rests _; left = refl }; quiet = refl }, c.fetch_into.ensures)
    (λ uses. absurd uses) (λ none. refl) (λ uses. absurd uses)

pub returns-in-Mirror-clause-ends : goal.returns-in-Mirror-clause-ends
returns-in-Mirror-clause-ends g c =
    the_ends c.in_ok-cid.ensures.found c.in_ok-cid.ensures.only c.in-Mirror.is
    (refl, record { untaken = record { moved = g.met.I.Source.rests _; left = refl }; quiet = refl }, inl c.mirror_dag.ensures.ends) (λ none. refl) (λ none. refl) (λ uses. absurd uses)

pub returns-in-Swarm-clause-ends : goal.returns-in-Swarm-clause-ends
returns-in-Swarm-clause-ends g c =
    the_ends c.in_ok-cid.ensures.found c.in_ok-cid.ensures.only c.in-Swarm.is
    (record { folder = refl; pack = refl }, record { untaken = record { moved = g.met.I.Source.rests _; left = refl }; quiet = refl }, c.swarm_file.ensures)
    (λ none. refl) (λ none. refl) (λ uses. absurd uses)

-- the number of files of a spelled `audit`
some_files : (words : List (List ℕ)) (read : Command) (parts : AuditParts) → CommandLine words read → read ≡ Audit parts → 0 < parts.files
some_files words read parts spelled is = let line = subst (CommandLine words) is spelled in omega (arith, line.1.files.least)

few_files : (words : List (List ℕ)) (read : Command) (parts : AuditParts) → CommandLine words read → read ≡ Audit parts → parts.files ≤ 20000
few_files words read parts spelled is = let line = subst (CommandLine words) is spelled in line.1.files.most

pub audit_build-requires-clause-some : goal.audit_build-requires-clause-some
audit_build-requires-clause-some g c = some_files _ _ _ c.in_ok-cid.ensures.found c.in-Audit.is

pub audit_build-requires-clause-few : goal.audit_build-requires-clause-few
audit_build-requires-clause-few g c = few_files _ _ _ c.in_ok-cid.ensures.found c.in-Audit.is

pub returns-in-Audit-clause-ends : goal.returns-in-Audit-clause-ends
returns-in-Audit-clause-ends g c =
    the_ends c.in_ok-cid.ensures.found c.in_ok-cid.ensures.only c.in-Audit.is
    (record { folder = refl; pack = refl }, record { untaken = record { moved = g.met.I.Source.rests _; left = refl }; quiet = refl }, c.audit_build.ensures)
    (λ none. refl) (λ none. refl) (λ none. refl)

pub returns-in-Help-clause-ends : goal.returns-in-Help-clause-ends
returns-in-Help-clause-ends g c =
    the_ends c.in_ok-cid.ensures.found c.in_ok-cid.ensures.only c.in-Help.is
    (record { folder = refl; pack = refl }, record { untaken = record { moved = g.met.I.Source.rests _; left = refl }; quiet = refl }, c.help.ensures) (λ none. refl) (λ none. refl) (λ none. refl)

pub returns-in-Version-clause-ends : goal.returns-in-Version-clause-ends
returns-in-Version-clause-ends g c =
    the_ends c.in_ok-cid.ensures.found c.in_ok-cid.ensures.only c.in-Version.is
    (record { folder = refl; pack = refl }, record { untaken = record { moved = g.met.I.Source.rests _; left = refl }; quiet = refl }, c.version.ensures) (λ none. refl) (λ none. refl) (λ none. refl)
