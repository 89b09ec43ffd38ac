-- Behind the space stands the word.
-- Assumes nothing.
use Rattle.text.proofs.Puts.{put_more}
use Rattle.text.proofs.put_spaced.Goals as goal

pub returns-clause-put : goal.returns-clause-put
returns-clause-put c = put_more _ _ _ _ _ _ _ _ c.put_byte-next.ensures.put c.put_word.ensures.put
