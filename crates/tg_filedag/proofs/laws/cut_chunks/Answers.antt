use Rattle.tg_filedag.proofs.FullLists.{full_are_chunks, last_is_chunk}
use Rattle.tg_filedag.proofs.laws.cut_chunks.Goals as goal

pub returns-clause-full : goal.returns-clause-full
returns-clause-full c = full_are_chunks

pub returns-clause-last : goal.returns-clause-last
returns-clause-last c = last_is_chunk
