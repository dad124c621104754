use Rattle.std.proofs.lemmas.Result.{err_from_is_err_and}
use Rattle.reading.proofs.Ordering.{turned_length, turned_bytes, turned_words, whole_read}
use Rattle.reading.proofs.read.read.Goals as goal

pub returns-in_err-check_length : goal.returns-in_err-check_length
returns-in_err-check_length c =
    let form = c.args.form in
    let p = err_from_is_err_and c.from_residual.result c.from_residual.ensures.1 in
    rw (p.1, p.2) (turned_length form _ _ (c.in_err-check_length.ensures form))

pub returns-in_err-check_bytes : goal.returns-in_err-check_bytes
returns-in_err-check_bytes c =
    let form = c.args.form in
    let p = err_from_is_err_and c.from_residual-in_err-check_bytes.result c.from_residual-in_err-check_bytes.ensures.1 in
    rw (p.1, p.2) (turned_bytes form _ _ (c.in_ok-check_length.ensures form) (c.in_err-check_bytes.ensures form))

pub returns-in_err-check_words : goal.returns-in_err-check_words
returns-in_err-check_words c =
    let form = c.args.form in
    let (ts, all) = c.in_ok-check_bytes.ensures form in
    let p = err_from_is_err_and c.from_residual-in_err-check_words.result c.from_residual-in_err-check_words.ensures.1 in
    rw (p.1, p.2) (turned_words form _ _ (c.in_ok-check_length.ensures form) (c.in_ok-check_bytes.ensures form) (c.in_err-check_words.ensures form ts all))

pub read_pattern-requires : goal.read_pattern-requires
read_pattern-requires c = c.in_ok-check_bytes.ensures c.args.form

pub returns : goal.returns
returns c =
    let form = c.args.form in
    let (ts, all) = c.in_ok-check_bytes.ensures form in
    whole_read form _ _ (c.in_ok-check_length.ensures form) (c.in_ok-check_bytes.ensures form) (c.in_ok-check_words.ensures form ts all) c.read_pattern.ensures
