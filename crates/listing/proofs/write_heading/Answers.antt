-- Each piece stands behind the one before, and all of them are short.
use native.Mathlib.Omega.{arith}
use Rattle.text.proofs.Puts.{put_more}
use Rattle.listing.proofs.write_heading.Goals as goal

pub returns : goal.returns
returns c = (
  omega (arith, c.put_byte.ensures.value, c.put_or_more-end.ensures.0, c.put_number-digits.ensures.upper_bound, c.put_bytes-behind.ensures.value),
  put_more _ _ _ _ _ _ _ _ c.put_bytes-behind.ensures.put (put_more _ _ _ _ _ _ _ _ c.put_number-digits.ensures.put (put_more _ _ _ _ _ _ _ _ c.put_or_more-end.ensures.1 c.put_byte.ensures.put)),
)
