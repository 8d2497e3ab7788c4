-- What was put before the reply was taken.
use Rattle.std.proofs.Common.{ℕ, List, sym, subst, length, Result, Ok, Err}
use Rattle.std.proofs.Math.Seq.{take-length}
use Rattle.std.specs.declared.option.Option.{Option}
use Rattle.std.specs.Io.KnownBytes.{Appends}
use Rattle.dm_heads.specs.declared.errors.HttpError.{HttpError}
use Rattle.dm_heads.specs.declared.errors.HttpError.TheVariants as error
use Rattle.dm_http.specs.Posts.{PutsBeginning, PutsRequest}

pub whole_beginning : (old new : Option (List ℕ)) (text : List ℕ) → Appends old new text → PutsBeginning old new text
whole_beginning old new text h = (length text, subst (Appends old new) (sym (take-length text)) h)

pub put_whole : (old new : Option (List ℕ)) (text : List ℕ) (r : Result (List ℕ) HttpError) → Appends old new text → PutsRequest old new text r
unfolding PutsRequest
put_whole old new text (Ok body) h = h
put_whole old new text (Err error.Failed) h = whole_beginning old new text h
put_whole old new text (Err error.Memory) h = whole_beginning old new text h
put_whole old new text (Err error.BadHead) h = h
put_whole old new text (Err (error.NotOk code)) h = h
put_whole old new text (Err error.TooLong) h = h
put_whole old new text (Err error.Cut) h = h
