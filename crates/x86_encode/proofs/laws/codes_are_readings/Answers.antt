use Rattle.x86_encode.proofs.ReadBack.{codes_read, readings_code, exact_readings_code, exchanges_read}
use Rattle.x86_encode.proofs.laws.codes_are_readings.Goals as goal

pub returns-clause-read : goal.returns-clause-read
returns-clause-read c = codes_read

pub returns-clause-mean : goal.returns-clause-mean
returns-clause-mean c = readings_code

pub returns-clause-exact : goal.returns-clause-exact
returns-clause-exact c = exact_readings_code

pub returns-clause-exchanges : goal.returns-clause-exchanges
returns-clause-exchanges c = exchanges_read
