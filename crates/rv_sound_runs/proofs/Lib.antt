mod Compilable
