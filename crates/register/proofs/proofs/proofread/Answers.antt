use Rattle.std.proofs.Common.{◌∙◌, length, refl, inl}
use Rattle.std.proofs.lemmas.Result.{err_from_is_err_and}
use Rattle.register.proofs.Wanted.{no_room}
use Rattle.register.proofs.proofs.proofread.Goals as goal

pub returns-in_err-len : goal.returns-in_err-len
returns-in_err-len c =
    let told = c.in_ok-last.ensures in
    let (is, short, kept) = c.in_err-len.ensures in
    let p = err_from_is_err_and c.from_residual-in_err-len.result c.from_residual-in_err-len.ensures.1 in
    rw (p.1, p.2, is)
    (record {
      why = inl (refl, no_room c.args.file.now c.read-read.result c.read-read.new.self c.read-read.ensures told.1 c.as_slice.result.now c.as_bytes.result.now c.as_slice.ensures.value (c.as_bytes.ensures.value ∙ told.0) (length c.args.out.now) short);
      kept = kept;
    })
