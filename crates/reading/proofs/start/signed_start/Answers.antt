-- `reading::start::signed_start` meets its contract: the sign step, and the class of what follows. Assumes nothing.
use Rattle.std.proofs.Common.{sym, rules}
use Rattle.rules.specs.SettingsAsWords.{settings_of}
use Rattle.rules.specs.NumbersHandedBack.{◌>>=◌}
use Rattle.reading.specs.Typed.{signed_start, signed_got}
use Rattle.reading.proofs.start.signed_start.Goals as goal

pub returns-in_err-signed : goal.returns-in_err-signed
unfolding signed_start ◌>>=◌
returns-in_err-signed c = search rules

pub returns : goal.returns
returns c = signed_got (settings_of c.args.settings.now) _ _ (sym c.in_ok-signed.ensures) c.class_at.ensures
