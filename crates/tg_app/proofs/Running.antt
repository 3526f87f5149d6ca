-- What a run says, from how its words end.
use Rattle.std.proofs.Common.{Option, ap, inl, inr, refl, subst, sym, ◌∙◌, ◌≡◌, ◌⊎◌, ℕ}
use Rattle.tg_app.proofs.AuditEndings.{audited_of, denied_of}
use Rattle.tg_app.proofs.Endings.{agrees, answered_of, checked_of, did_of, ends_of, export_answered_of, export_nothing_of, exported_of, fault_of, import_answered_of, imported_of, kept_dial_of, kept_door_of, kept_making_of, kept_of, text_answered_of, text_put_of}
use Rattle.tg_app.proofs.Endings.{memory_isnt, memory_of, node_answered_of, node_other_of, noded_of, nowhere_of, other_of, passed_of, printed_of, quiet_of, refused_of, untouched_of, usage_of}
use Rattle.tg_app.proofs.FetchEndings.{dialled_of, fetch_absent_of, fetch_answered_of, fetch_nothing_of, fetch_other_of, fetch_rose_of, fetch_vouched_of, fetched_of}
use Rattle.tg_app.proofs.IntoEndings.{fetch_into_answered, fetch_into_nothing, fetch_into_rose, fetch_into_told, fetch_into_vouched, verify_into_answered, verify_into_nothing, verify_into_told, verify_into_vouched}
use Rattle.tg_app.proofs.IntoReadings.{MadeLaws}
use Rattle.tg_app.proofs.MirrorEndings.{mirror_answered_of, mirror_fault_of, mirror_left_of, mirror_rose_of, mirror_unbegun, mirror_vouched_of, mirrored_of}
use Rattle.tg_app.proofs.OwnCars.{AttachAlike, own_car_of}
use Rattle.tg_app.proofs.OwnAnswers.{AnswerTexts, own_answer_of}
use Rattle.tg_app.proofs.OwnDone.{DoneLaws, has_answer}
use Rattle.tg_app.proofs.ServeEndings.{NoneCaused, door_fault_of, serve_answered_of, served_of}
use Rattle.tg_app.proofs.SwarmEndings.{swarm_runs}
use Rattle.tg_app.proofs.VerifyEndings.{verified_of, verify_answered_of, verify_nothing_of, vouched_of}
use Rattle.tg_commands.specs.Check.{CheckStatus}
use Rattle.tg_commands.specs.CidLines.{HexLine, TextLine}
use Rattle.tg_app.specs.Commands.{CommandEnds, Ends, MakesNoFolder, NoMemoryEnds, UsesNoDial}
use Rattle.tg_commands.specs.Lines.{Says, exit_status}
use Rattle.tg_commands.specs.Node.{NodeStatus}
use Rattle.tg_app.specs.Runs.{Asks, AuditRun, CheckRun, CidHexRun, CidTextRun, ExportRun, FetchIntoRun, FetchRun, ImportRun, MirrorRun, NodeRun, Run, Runs, ServeRun, SwarmRun, TextRun, VerifyIntoRun, VerifyRun, WordsRun}
use Rattle.tg_commands.specs.declared.fault.CommandFault.{CommandFault}
use Rattle.tg_cid.specs.Cid.{CidParts}
use Rattle.tg_model.specs.Queries.{QueryParts}
use Rattle.tg_model_laws.specs.Depths.{CutsAtDepths, ShowsDownTo}
use Rattle.tg_streams.specs.Streams.{Put}
use Rattle.tg_model_laws.specs.Verified.{VerifiedMisses}
use Rattle.tg_verify.specs.Laws.{AnswerIsFront, ThroughFits}
use Rattle.tg_words.specs.AuditLines.{AuditParts}
use Rattle.tg_words.specs.ExportLines.{ExportParts}
use Rattle.tg_words.specs.FetchLines.{FetchParts}
use Rattle.tg_words.specs.Help.{help_text, version_text}
use Rattle.tg_words.specs.ImportLines.{ImportParts}
use Rattle.tg_words.specs.IntoLines.{FetchIntoParts, VerifyIntoParts}
use Rattle.tg_words.specs.MirrorLines.{MirrorParts}
use Rattle.tg_words.specs.ServeLines.{ServeParts}
use Rattle.tg_words.specs.SwarmLines.{SwarmParts}
use Rattle.tg_words.specs.declared.names.CommandName.{CommandName}
use Rattle.tg_words.specs.declared.Command.{Command}
use Rattle.tg_words.specs.declared.Command.TheVariants.{Audit, Check, CidToHex, CidToText, Export, Fetch, FetchInto, Help, Import, Mirror, Node, Serve, Swarm, Verify, VerifyInto, Version}

-- how the words of a run end, its status and its line
module _ (run : Run) (end : Option CommandFault) (through : ThroughFits) (front : AnswerIsFront) (misses : VerifiedMisses)
    (cuts : CutsAtDepths) (shows : ShowsDownTo) (alike : AttachAlike) (uncaused : NoneCaused) (texts : AnswerTexts) (dones : DoneLaws) (mades : MadeLaws)
    (status : run.status ≡ exit_status end) (line : Says end run.err) (ends : Ends run.words run.objects end) where
  by : (command : Command) → UsesNoDial command × MakesNoFolder command → Asks run command → CommandEnds command run.objects end
  by command uses asked = ends_of run.words command run.objects end uses asked ends

  has : {n : ℕ} → run.status ≡ n → exit_status end ≡ n
  has e = sym status ∙ e

  words_run : WordsRun run
  words_run = record {
    ends = (end, status, ends, line);
    usage = λ two. usage_of run.words run.objects end (has two) ends;
    no_command = λ none. subst (λ (n : ℕ). (n ≡ 2) ⊎ (n ≡ 8)) (sym status) (refused_of run.words run.objects end none ends);
    untouched = λ two. untouched_of run.words run.objects end (has two) ends;
    memory = λ eight. memory_of run.words run.objects end (has eight) ends;
    kept = λ command asked uses. kept_of run.words command run.objects end asked uses ends;
    kept_making = λ command asked uses. kept_making_of run.words command run.objects end asked uses ends;
    kept_door = λ command asked uses. kept_door_of run.words command run.objects end asked uses ends;
    kept_dial = λ command asked uses. kept_dial_of run.words command run.objects end asked uses ends;
    fault = λ command asked uses six. fault_of run.words command run.objects end asked uses (has six) ends;
    quiet_input = λ ne. (quiet_of run.words run.objects end (λ six. ne (status ∙ six)) ends).0;
    quiet_output = λ ne. (quiet_of run.words run.objects end (λ six. ne (status ∙ six)) ends).1;
    passed = λ command asked reads seven. passed_of run.words command run.objects end asked reads (has seven) ends;
  }

  check_run : (cid : CidParts) → Asks run (Check cid) → CheckRun cid run
  check_run cid asked =
      let did = (by (Check cid) (tt, tt) asked).1 in
      record {
        ends = (end, status, did, line);
        checked = λ zero. checked_of cid run.objects.input run.objects.out end (has zero) did;
        other = λ three. other_of cid run.objects.input run.objects.out end (has three) did;
        vouched = λ block named zero.
            agrees cid block run.objects.input run.objects.out named (checked_of cid run.objects.input run.objects.out end (has zero) did);
        answered = λ bytes told none. subst (λ (n : ℕ). (n ≡ 8) ⊎ CheckStatus cid bytes n) (sym status)
            (answered_of cid bytes run.objects.input run.objects.out end told none.input none.out did);
      }

  node_run : (cid : CidParts) → Asks run (Node cid) → NodeRun cid run
  node_run cid asked =
      let did = (by (Node cid) (tt, tt) asked).1 in
      record {
        ends = (end, status, did, line);
        noded = λ zero. noded_of cid run.objects.input run.objects.out end (has zero) did;
        other = λ three. node_other_of cid run.objects.input run.objects.out end (has three) did;
        answered = λ bytes told none. subst (λ (n : ℕ). (n ≡ 8) ⊎ NodeStatus cid bytes n) (sym status)
            (node_answered_of cid bytes run.objects.input run.objects.out end told none.input none.out did);
      }

  cid_hex_run : (cid : CidParts) → Asks run (CidToHex cid) → CidHexRun cid run
  cid_hex_run cid asked =
      let did = by (CidToHex cid) (tt, tt) asked in
      record { ends = (end, status, did, line); put = λ zero. printed_of (HexLine cid) run.objects.out end (has zero) did.2 }

  cid_text_run : (cid : CidParts) → Asks run (CidToText cid) → CidTextRun cid run
  cid_text_run cid asked =
      let did = by (CidToText cid) (tt, tt) asked in
      record { ends = (end, status, did, line); put = λ zero. printed_of (TextLine cid) run.objects.out end (has zero) did.2 }

  export_run : (parts : ExportParts) → Asks run (Export parts) → ExportRun parts run
  export_run parts asked =
      let did = by (Export parts) (tt, tt) asked in
      let pack = run.objects.files.pack in
      let same = run.objects.files.same_pack in
      record {
        ends = (end, status, did, line);
        exported = λ zero. exported_of parts.pack parts.query pack same run.objects.out end (has zero) did.2;
        nowhere = λ nine. nowhere_of parts.pack parts.query pack same run.objects.out end (has nine) did.2;
        nothing = λ nine told. export_nothing_of parts.pack parts.query pack same run.objects.out end (has nine) told did.2;
        answered = λ answer no_pack no_out. subst (λ (n : ℕ). (n ≡ 8) ⊎ (n ≡ 0)) (sym status)
            (export_answered_of parts.pack parts.query pack same run.objects.out end answer no_pack no_out did.2);
        own_car = λ d text held sound root answers few zero. own_car_of dones.opened cuts shows parts.query d sound root alike text answers few run.objects.out parts.pack pack held
            (exported_of parts.pack parts.query pack same run.objects.out end (has zero) did.2);
        own_done = λ d text held sound root answers shallow no_pack no_out. subst (λ (n : ℕ). (n ≡ 8) ⊎ (n ≡ 0)) (sym status)
            (export_answered_of parts.pack parts.query pack same run.objects.out end (has_answer dones parts.query d text pack.content_old held sound root answers shallow) no_pack no_out did.2);
      }

  import_run : (parts : ImportParts) → Asks run (Import parts) → ImportRun parts run
  import_run parts asked =
      let did = by (Import parts) (tt, tt) asked in
      let files = run.objects.files in
      record {
        ends = (end, status, did, line);
        imported = λ zero. imported_of parts files run.objects.out end (has zero) did.1;
        answered = λ good no_folder no_pack no_out. subst (λ (n : ℕ). (n ≡ 8) ⊎ (n ≡ 0)) (sym status)
            (import_answered_of parts files run.objects.out end good no_folder no_pack no_out did.1);
      }

  verify_run : (q : QueryParts) → Asks run (Verify q) → VerifyRun q run
  verify_run q asked =
      let did = by (Verify q) (tt, tt) asked in
      record {
        ends = (end, status, did, line);
        verified = λ zero. verified_of q run.objects.input run.objects.out end through (has zero) did.1;
        nothing = λ nine. verify_nothing_of misses q run.objects.input run.objects.out end (has nine) did.1;
        answered = λ bytes told good none. subst (λ (n : ℕ). (n ≡ 8) ⊎ (n ≡ 0)) (sym status)
            (verify_answered_of q bytes run.objects.input run.objects.out end told good none.input none.out did.1);
        own_answer = λ d text bytes told its zero. own_answer_of texts q d text bytes run.objects.input run.objects.out end (has zero) did.1 told its;
        vouched_answer = λ d sound root. vouched_of front q d run.objects.input run.objects.out run.err run.status sound root end status line did.1;
      }

  serve_run : (parts : ServeParts) → Asks run (Serve parts) → ServeRun parts run
  serve_run parts asked =
      let did = by (Serve parts) (tt, tt) asked in
      let pack = run.objects.files.pack in
      let same = run.objects.files.same_pack in
      record {
        ends = (end, status, did, line);
        served = λ zero. served_of parts pack same run.objects.out run.objects.door end (has zero) did.2;
        door_fault = λ five. door_fault_of parts pack same run.objects.out run.objects.door end (has five) did.2;
        answered = λ good no_pack no_door no_out. subst (λ (n : ℕ). (n ≡ 8) ⊎ ((n ≡ 7) ⊎ (n ≡ 0))) (sym status)
            (serve_answered_of uncaused parts pack same run.objects.out run.objects.door end good no_pack no_door no_out did.2);
      }

  fetch_run : (parts : FetchParts) → Asks run (Fetch parts) → FetchRun parts run
  fetch_run parts asked = by_did (did_of run.words (Fetch parts) run.objects end asked ends)
    where
      by_did : NoMemoryEnds run.objects end ⊎ CommandEnds (Fetch parts) run.objects end → FetchRun parts run
      by_did (inl memory) =
          let eight = status ∙ ap exit_status memory.end_is in
          record {
            ends = (end, status, inl memory, line);
            dialled = λ other. absurd (other eight);
            fetched = λ zero. absurd (memory_isnt run.objects end 0 refl (has zero) memory);
            other = λ four. absurd (memory_isnt run.objects end 4 refl (has four) memory);
            dial_fault = λ five. absurd (memory_isnt run.objects end 5 refl (has five) memory);
            nothing = λ nine. absurd (memory_isnt run.objects end 9 refl (has nine) memory);
            answered = λ text good no_dial no_out. inl eight;
            absent = λ miss shown no_dial. inl eight;
            vouched_answer = λ d sound root. inl (eight, memory.untouched);
          }
      by_did (inr did) =
          let dial = run.objects.dial.dialling in
          let out = run.objects.out in
          record {
            ends = (end, status, inr did, line);
            dialled = λ other. dialled_of parts dial out end did.2;
            fetched = λ zero. fetched_of parts dial out end (has zero) did.2;
            other = λ four. fetch_other_of parts dial out end (has four) did.2;
            dial_fault = λ five. fetch_rose_of parts dial out end (has five) did.2;
            nothing = λ nine. fetch_nothing_of misses parts dial out end (has nine) did.2;
            answered = λ text good no_dial no_out. subst (λ (n : ℕ). (n ≡ 8) ⊎ ((n ≡ 0) × Put text out)) (sym status)
                (fetch_answered_of parts dial out end text good no_dial no_out did.2);
            absent = λ miss shown no_dial. fetch_absent_of parts dial out run.err run.status end miss shown no_dial status line did.2;
            vouched_answer = λ d sound root. inr (fetch_vouched_of front parts d dial out run.err run.status end sound root status line did.2);
          }

  fetch_into_run : (parts : FetchIntoParts) → Asks run (FetchInto parts) → FetchIntoRun parts run
  fetch_into_run parts asked = by_did (did_of run.words (FetchInto parts) run.objects end asked ends)
    where
      by_did : NoMemoryEnds run.objects end ⊎ CommandEnds (FetchInto parts) run.objects end → FetchIntoRun parts run
      by_did (inl memory) =
          let eight = status ∙ ap exit_status memory.end_is in
          record {
            ends = (end, status, inl memory, line);
            told = λ zero. absurd (memory_isnt run.objects end 0 refl (has zero) memory);
            dial_fault = λ five. absurd (memory_isnt run.objects end 5 refl (has five) memory);
            nothing = λ nine. absurd (memory_isnt run.objects end 9 refl (has nine) memory);
            vouched = λ d sound measured root. inl (eight, memory.untouched);
            answered = λ d reply no_dial no_tree no_out. inl eight;
          }
      by_did (inr did) =
          let dial = run.objects.dial in
          let making = run.objects.making in
          let out = run.objects.out in
          let line_asked = asked.1.asked in
          record {
            ends = (end, status, inr did, line);
            told = λ zero. fetch_into_told parts dial making out end (has zero) did.2;
            dial_fault = λ five. fetch_into_rose parts dial making out end (has five) did.2;
            nothing = λ nine. fetch_into_nothing parts dial making out end (has nine) did.2;
            vouched = λ d sound measured root.
                inr (fetch_into_vouched parts dial making out mades front line_asked.scope_is line_asked.form d end run.status status run.err line sound measured root did.2);
            answered = λ d reply no_dial no_tree no_out.
                fetch_into_answered parts dial making out mades front line_asked.scope_is line_asked.form d end run.status status reply no_dial no_tree no_out did.2;
          }

  verify_into_run : (parts : VerifyIntoParts) → Asks run (VerifyInto parts) → VerifyIntoRun parts run
  verify_into_run parts asked = by_did (did_of run.words (VerifyInto parts) run.objects end asked ends)
    where
      by_did : NoMemoryEnds run.objects end ⊎ CommandEnds (VerifyInto parts) run.objects end → VerifyIntoRun parts run
      by_did (inl memory) =
          let eight = status ∙ ap exit_status memory.end_is in
          record {
            ends = (end, status, inl memory, line);
            told = λ zero. absurd (memory_isnt run.objects end 0 refl (has zero) memory);
            nothing = λ nine. absurd (memory_isnt run.objects end 9 refl (has nine) memory);
            vouched = λ d sound measured root. inl (eight, memory.untouched);
            answered = λ d bytes told good no_in no_tree no_out. inl eight;
          }
      by_did (inr did) =
          let input = run.objects.input in
          let making = run.objects.making in
          let out = run.objects.out in
          let scope = asked.1.asked.scope_is in
          record {
            ends = (end, status, inr did, line);
            told = λ zero. verify_into_told parts input making out end (has zero) did.1;
            nothing = λ nine. verify_into_nothing parts input making out end (has nine) did.1;
            vouched = λ d sound measured root. inr (verify_into_vouched parts input making out mades front scope d end run.status status run.err line sound measured root did.1);
            answered = λ d bytes told good no_in no_tree no_out.
                verify_into_answered parts input making out mades front scope d end run.status status bytes told good no_in no_tree no_out did.1;
          }

  -- no memory was found for the words, or the command ended as itself: the mirror says both
  mirror_ends : (parts : MirrorParts) → NoMemoryEnds run.objects end ⊎ CommandEnds (Mirror parts) run.objects end → CommandEnds (Mirror parts) run.objects end
  mirror_ends parts (inl memory) =
      let all = memory.untouched in
      (all.files.folder, all.streams.untaken, mirror_unbegun parts run.objects.files run.objects.dial run.objects.out end memory.end_is all.files.pack all.dial all.streams.unput)
  mirror_ends parts (inr did) = did

  mirror_run : (parts : MirrorParts) → Asks run (Mirror parts) → MirrorRun parts run
  mirror_run parts asked =
      let did = mirror_ends parts (did_of run.words (Mirror parts) run.objects end asked ends) in
      let files = run.objects.files in
      let dial = run.objects.dial in
      let out = run.objects.out in
      record {
        ends = (end, status, did, line);
        mirrored = λ zero. mirrored_of parts files dial out end (has zero) did.2;
        vouched = λ d sound root zero. mirror_vouched_of parts d files dial out end (has zero) sound root did.2;
        left = λ ne. mirror_left_of parts files dial out end (λ zero. ne (status ∙ zero)) did.2;
        dial_fault = λ five. mirror_rose_of parts files dial out end (has five) did.2;
        fault = λ six. mirror_fault_of parts files dial out end (has six) did.2;
        answered = λ good no_dial no_pack no_out. subst (λ (n : ℕ). (n ≡ 8) ⊎ (n ≡ 0)) (sym status)
            (mirror_answered_of parts files dial out end good no_dial no_pack no_out did.2);
      }

  swarm_run : (parts : SwarmParts) → Asks run (Swarm parts) → SwarmRun parts run
  swarm_run parts asked =
      swarm_runs parts run end status line (kept_door_of run.words (Swarm parts) run.objects end asked tt ends)
      (kept_making_of run.words (Swarm parts) run.objects end asked tt ends) (did_of run.words (Swarm parts) run.objects end asked ends)

  audit_run : (parts : AuditParts) → Asks run (Audit parts) → AuditRun parts run
  audit_run parts asked =
      let did = by (Audit parts) (tt, tt) asked in
      record {
        ends = (end, status, did, line);
        files = did.0;
        input = did.1;
        audited = λ zero. audited_of parts run.objects.out end (has zero) did.2;
        denied = λ three. denied_of parts run.objects.out end (has three) did.2;
      }

  help_run : (topic : Option CommandName) → Asks run (Help topic) → TextRun (Help topic) (help_text topic) run
  help_run topic asked =
      let did = by (Help topic) (tt, tt) asked in
      record {
        ends = (end, status, did, line);
        put = λ zero. text_put_of (help_text topic) run.objects.out end (has zero) did.2;
        files = did.0;
        input = did.1;
        answered = λ no_out. subst (λ (n : ℕ). (n ≡ 8) ⊎ (n ≡ 0)) (sym status) (text_answered_of (help_text topic) run.objects.out end no_out did.2);
      }

  version_run : Asks run Version → TextRun Version version_text run
  version_run asked =
      let did = by Version (tt, tt) asked in
      record {
        ends = (end, status, did, line);
        put = λ zero. text_put_of version_text run.objects.out end (has zero) did.2;
        files = did.0;
        input = did.1;
        answered = λ no_out. subst (λ (n : ℕ). (n ≡ 8) ⊎ (n ≡ 0)) (sym status) (text_answered_of version_text run.objects.out end no_out did.2);
      }

  pub runs : Runs run
  runs = record {
    words = words_run;
    check = check_run;
    node = node_run;
    cid_hex = cid_hex_run;
    cid_text = cid_text_run;
    export = export_run;
    import = import_run;
    verify = verify_run;
    serve = serve_run;
    fetch = fetch_run;
    fetch_into = fetch_into_run;
    verify_into = verify_into_run;
    mirror = mirror_run;
    swarm = swarm_run;
    audit = audit_run;
    help = help_run;
    version = version_run;
  }
