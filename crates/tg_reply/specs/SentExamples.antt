-- Worked examples: what is sent for requests over a store of three roots, answered whole and broken off.
use Rattle.httparse.specs.Ascii.{crlf_bytes}
use Rattle.std.specs.Prelude.{List, [], codes, true, ℕ, ◌++◌, ◌∷◌}
use Rattle.tg_reply.specs.Examples.{absence_head, empty_car_header, empty_car_section, empty_chunks, empty_head, empty_head_plain, first_target, lines}
use Rattle.tg_reply.specs.Examples.{open_reply, request_lines, second_target, server_error}
use Rattle.tg_reply.specs.Replies.{Reply}
use Rattle.tg_reply.specs.declared.status.Status.TheVariants as statuses
use Rattle.tg_reply.specs.Sent.{Sent, broken_before, broken_behind, quiet}

-- ---- requests

-- for the empty directory, and behind it for an entry of it
abbrev pub both_requests : List ℕ
both_requests = request_lines first_target ++ request_lines second_target

-- for the empty directory by HTTP/1.0
abbrev pub plain_request : List ℕ
plain_request = lines ((codes "GET " ++ (first_target ++ codes " HTTP/1.0")) ∷ codes "Accept: application/vnd.ipld.car" ∷ [])

-- and behind it for an entry of it
abbrev pub plain_requests : List ℕ
plain_requests = plain_request ++ request_lines second_target

-- ---- replies

-- the CAR of the empty directory
abbrev pub directory_reply : Reply
directory_reply = open_reply statuses.Ok empty_head empty_chunks

-- that an entry of it isn't there
abbrev pub absent_reply : Reply
absent_reply = open_reply statuses.NotFound absence_head empty_chunks

-- the CAR of the empty directory without chunks, behind which the connection closes
abbrev pub plain_reply : Reply
plain_reply = record (open_reply statuses.Ok empty_head_plain (empty_car_header ++ empty_car_section)) { closes = true }

-- the CAR of the empty directory, cut
abbrev pub cut_reply : List ℕ → List ℕ → Reply
cut_reply head body = record { status = statuses.Ok; head = head; body = body; cut = true; closes = true }

-- the chunk of the CAR's header, of 59 bytes
abbrev pub header_chunk : List ℕ
header_chunk = codes "3b" ++ (crlf_bytes ++ (empty_car_header ++ crlf_bytes))

-- ---- what is sent

-- the store gave all that was looked up
abbrev pub as_stored_sent : List Sent
as_stored_sent = quiet directory_reply 0 ∷ quiet absent_reply 0 ∷ []

-- the store failed before the head of the first reply, and gave what was looked up for the second
abbrev pub refused_sent : List Sent
refused_sent =
    record { reply = server_error (codes "6") (codes "Store"); course = broken_before; faults_before = 0; faults_now = 1 } ∷ quiet absent_reply 1 ∷ []

-- the store failed behind the header of the CAR, before its first section
abbrev pub cut_sent : Reply → List Sent
cut_sent reply = record { reply = reply; course = broken_behind 0; faults_before = 0; faults_now = 1 } ∷ []
