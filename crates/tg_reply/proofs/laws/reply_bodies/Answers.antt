use Rattle.tg_reply.proofs.ChunkTexts.{cut_chunks, whole_chunks}
use Rattle.tg_reply.proofs.laws.reply_bodies.Goals as goal

pub returns-clause-whole : goal.returns-clause-whole
returns-clause-whole c = whole_chunks

pub returns-clause-cut : goal.returns-clause-cut
returns-clause-cut c = cut_chunks
