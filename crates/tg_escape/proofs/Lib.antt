mod Escapes
